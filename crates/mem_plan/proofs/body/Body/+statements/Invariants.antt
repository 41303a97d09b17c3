use Rattle.std.proofs.Common.{◌≡◌, ◌++◌, drop}
use Rattle.std.specs.Prelude.{◌||◌}
use Rattle.c_tree.specs.Uses.{called}
use Rattle.tree_code.specs.WordHelpers.{needs_routine, some_list_form, some_choice_form}
use Rattle.tree_code.specs.WordUses.{word_statements_uses, word_choices_uses}
use Rattle.tree_code.specs.WordView.{word_statement_list, word_choice_list}
use Rattle.mem_plan.proofs.body.Body.+statements.Given as goal

abbrev pub invariant-statements-loop-s : goal.invariant-statements-loop-s
invariant-statements-loop-s l = record {
  calls : l.self.calls.items ++ called (word_statements_uses (word_statement_list (drop l.s-index l.list))) ≡ l.initial.self.calls.items ++ called (word_statements_uses (word_statement_list l.list));
  routine : (l.self.routine || some_list_form needs_routine (word_statement_list (drop l.s-index l.list))) ≡ (l.initial.self.routine || some_list_form needs_routine (word_statement_list l.list));
}

abbrev pub invariant-choices-loop-choice : goal.invariant-choices-loop-choice
invariant-choices-loop-choice l = record {
  calls : l.self.calls.items ++ called (word_choices_uses (word_choice_list (drop l.choice-index l.list))) ≡ l.initial.self.calls.items ++ called (word_choices_uses (word_choice_list l.list));
  routine : (l.self.routine || some_choice_form needs_routine (word_choice_list (drop l.choice-index l.list))) ≡ (l.initial.self.routine || some_choice_form needs_routine (word_choice_list l.list));
}
