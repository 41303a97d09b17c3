use Rattle.std.proofs.Common.{◌≡◌, take}
use Rattle.c25_isa.specs.Table.{code_words}
use Rattle.c25_isa.proofs.code.words_of.Given as goal

abbrev pub invariant-loop-instr : goal.invariant-loop-instr
invariant-loop-instr l = l.words.items ≡ code_words (take l.instr-index l.code)
