use Rattle.std.proofs.Common.{◌≡◌, ◌++◌, drop}
use Rattle.c25_debug.specs.Looks.{spaced}
use Rattle.c25_debug.proofs.lines.push_spaced.Given as goal

abbrev pub invariant-loop-word : goal.invariant-loop-word
invariant-loop-word l = l.text.items ++ spaced (drop l.word-index l.words) ≡ l.initial.text.items ++ spaced l.words
