use Rattle.std.proofs.Common.{◌≡◌, ◌++◌, drop}
use Rattle.word_base.specs.Ports.{input_of}
use Rattle.c25_sim.proofs.run.words_at.Given as goal

abbrev pub invariant-loop-line : goal.invariant-loop-line
invariant-loop-line l = l.words.items ++ input_of (drop l.line-index l.lines) l.port ≡ input_of l.lines l.port
