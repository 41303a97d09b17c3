use Rattle.std.proofs.Common.{◌≡◌, vec_len, take}
use Rattle.word_base.specs.Ports.{input_of}
use Rattle.c_state.specs.Inputs.{words_in, words_of}
use Rattle.c_state.proofs.inputs.Inputs.new.Given as goal

abbrev pub invariant-loop-line : goal.invariant-loop-line
invariant-loop-line l = (vec_len l.queues ≡ 16) × (words_of (words_in l.queues.items) ≡ input_of (take l.line-index l.ports))
