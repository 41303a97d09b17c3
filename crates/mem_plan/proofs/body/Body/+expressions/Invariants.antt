use Rattle.std.proofs.Common.{◌≡◌, ◌++◌, drop}
use Rattle.std.specs.Prelude.{◌||◌}
use Rattle.c_tree.specs.Uses.{called}
use Rattle.tree_code.specs.WordHelpers.{needs_routine, some_argument_form}
use Rattle.tree_code.specs.WordUses.{word_list_uses}
use Rattle.tree_code.specs.WordView.{word_argument_list}
use Rattle.mem_plan.proofs.body.Body.+expressions.Given as goal

abbrev pub invariant-expressions-loop-e : goal.invariant-expressions-loop-e
invariant-expressions-loop-e l = record {
  calls : l.self.calls.items ++ called (word_list_uses (word_argument_list (drop l.e-index l.list))) ≡ l.initial.self.calls.items ++ called (word_list_uses (word_argument_list l.list));
  routine : (l.self.routine || some_argument_form needs_routine (word_argument_list (drop l.e-index l.list))) ≡ (l.initial.self.routine || some_argument_form needs_routine (word_argument_list l.list));
}
