use Rattle.std.proofs.Common.{◌≡◌, take}
use Rattle.c_tree.specs.View as typed
use Rattle.tree_code.specs.Lowered.{lowered_statements, lowered_choices}
use Rattle.c_tree.specs.TypedOfWords.{StatementsUseWords, ChoicesUseWords}
use Rattle.tree_code.specs.WordView.{word_statement_list, word_choice_list}
use Rattle.tree_code.proofs.statements.+statements.Given as goal

-- those before the place of the loop are lowered, and of words
abbrev pub invariant-statements-loop-s : goal.invariant-statements-loop-s
invariant-statements-loop-s l = record {
  tree : word_statement_list l.all.items ≡ lowered_statements (typed.statement_list (take l.s-index l.list));
  words : StatementsUseWords (typed.statement_list (take l.s-index l.list));
}

abbrev pub invariant-choices-loop-part : goal.invariant-choices-loop-part
invariant-choices-loop-part l = record {
  tree : word_choice_list l.all.items ≡ lowered_choices (typed.choice_list (take l.part-index l.list));
  words : ChoicesUseWords (typed.choice_list (take l.part-index l.list));
}
