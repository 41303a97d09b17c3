use Rattle.std.proofs.Common.{◌≡◌, take}
use Rattle.tree_code.specs.ByteCount.{in_byte}
use Rattle.tree_code.specs.WordView.{word_statement_list, word_choice_list}
use Rattle.tree_code.specs.WordTemporaries.{word_statements_temporaries, word_choices_temporaries}
use Rattle.tree_code.proofs.counting.+statements.Given as goal

abbrev pub invariant-statements-loop-s : goal.invariant-statements-loop-s
invariant-statements-loop-s l = l.most ≡ in_byte (word_statements_temporaries (word_statement_list (take l.s-index l.list)))

abbrev pub invariant-choices-loop-part : goal.invariant-choices-loop-part
invariant-choices-loop-part l = l.most ≡ in_byte (word_choices_temporaries (word_choice_list (take l.part-index l.list)))
