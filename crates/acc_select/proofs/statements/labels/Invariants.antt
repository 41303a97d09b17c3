use Rattle.std.proofs.Common.{◌≡◌, ◌++◌, drop}
use Rattle.tree_code.specs.WordView.{word_choice_list}
use Rattle.acc_select.specs.Selected.{labels_of}
use Rattle.acc_select.proofs.statements.labels.Given as goal

abbrev pub invariant-loop-c : goal.invariant-loop-c
invariant-loop-c l = l.all.items ++ labels_of (word_choice_list (drop l.c-index l.list)) ≡ labels_of (word_choice_list l.list)
