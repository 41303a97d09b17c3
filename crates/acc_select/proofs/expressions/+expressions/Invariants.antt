use Rattle.std.proofs.Common.{◌≡◌, ◌+◌, ◌-◌, ◌*◌, min, max, length}
use Rattle.acc_code.specs.AccTree.{◌⧺◌}
use Rattle.acc_code.specs.AccView.{item_list}
use Rattle.acc_select.specs.Selected.{arguments}
use Rattle.acc_select.proofs.ArgumentLemmas.{arguments_from}
use Rattle.tree_code.specs.WordView.{word_argument_list}
use Rattle.tree_code.specs.declared.word_expression.WordForm.{size-WordForm}
use Rattle.tree_code.specs.declared.word_expression.WordTargetForm.{size-WordTargetForm}
use Rattle.acc_select.proofs.expressions.+expressions.Given as goal

-- an expression has the height of its tree as its measure, a form that of its highest part, and a list that of its highest
-- element; what calls another on the same tree stands above it
abbrev pub decreases-find : goal.decreases-find
decreases-find l = 16 * (size-WordForm l.e.now.form) + 0

abbrev pub decreases-loaded : goal.decreases-loaded
decreases-loaded l = 16 * (size-WordForm l.e.now.form) + 1

abbrev pub decreases-effect : goal.decreases-effect
decreases-effect l = 16 * (size-WordForm l.e.now.form) + 3

abbrev pub decreases-loaded_effect : goal.decreases-loaded_effect
decreases-loaded_effect l = 16 * (size-WordForm l.e.now.form) + 2

abbrev pub decreases-into : goal.decreases-into
decreases-into l = 16 * (size-WordForm l.e.now.form) + 3

abbrev pub decreases-loaded_into : goal.decreases-loaded_into
decreases-loaded_into l = 16 * (size-WordForm l.e.now.form) + 2

abbrev pub decreases-point : goal.decreases-point
decreases-point l = 16 * (size-WordForm l.e.now.form) + 3

abbrev pub decreases-loaded_point : goal.decreases-loaded_point
decreases-loaded_point l = 16 * (size-WordForm l.e.now.form) + 2

abbrev pub decreases-pointed : goal.decreases-pointed
decreases-pointed l = 16 * (size-WordForm l.p.now.form) + 4

abbrev pub decreases-unary : goal.decreases-unary
decreases-unary l = 16 * (size-WordForm l.value.now.form) + 1

abbrev pub decreases-binary : goal.decreases-binary
decreases-binary l = 16 * (max (size-WordForm l.left.now.form) (size-WordForm l.right.now.form)) + 5

abbrev pub decreases-kept : goal.decreases-kept
decreases-kept l = 16 * (max (size-WordForm l.left.now.form) (size-WordForm l.right.now.form)) + 4

abbrev pub decreases-compare : goal.decreases-compare
decreases-compare l = 16 * (max (size-WordForm l.left.now.form) (size-WordForm l.right.now.form)) + 5

abbrev pub decreases-updated : goal.decreases-updated
decreases-updated l = 16 * (size-WordForm l.right.now.form) + 2

abbrev pub decreases-held : goal.decreases-held
decreases-held l = 16 * (size-WordForm l.right.now.form) + 1

abbrev pub decreases-binary_effect : goal.decreases-binary_effect
decreases-binary_effect l = 16 * (max (size-WordForm l.left.now.form) (size-WordForm l.right.now.form)) + 6

abbrev pub decreases-not_number : goal.decreases-not_number
decreases-not_number l = 16 * (size-WordForm l.value.now.form) + 6

abbrev pub decreases-signed_list : goal.decreases-signed_list
decreases-signed_list l = 16 * (size-WordForm l.e.now.form) + 1

abbrev pub decreases-pick : goal.decreases-pick
decreases-pick l = 16 * (max (size-WordForm l.test.now.form) (max (size-WordForm l.yes.now.form) (size-WordForm l.no.now.form))) + 7

abbrev pub decreases-effect_list : goal.decreases-effect_list
decreases-effect_list l = 16 * (size-WordForm l.e.now.form) + 4

abbrev pub decreases-pick_effect : goal.decreases-pick_effect
decreases-pick_effect l = 16 * (max (size-WordForm l.test.now.form) (max (size-WordForm l.yes.now.form) (size-WordForm l.no.now.form))) + 7

abbrev pub decreases-assign : goal.decreases-assign
decreases-assign l = 16 * (max (size-WordTargetForm l.to.now.form) (size-WordForm l.value.now.form)) + 6

abbrev pub decreases-assign_at : goal.decreases-assign_at
decreases-assign_at l = 16 * (max (size-WordForm l.p.now.form) (size-WordForm l.value.now.form)) + 5

abbrev pub decreases-assign_through : goal.decreases-assign_through
decreases-assign_through l = 16 * (max (size-WordForm l.p.now.form) (size-WordForm l.value.now.form)) + 4

abbrev pub decreases-stored : goal.decreases-stored
decreases-stored l = 16 * (size-WordForm l.e.now.form) + 2

abbrev pub decreases-assign_effect : goal.decreases-assign_effect
decreases-assign_effect l = 16 * (max (size-WordTargetForm l.to.now.form) (size-WordForm l.value.now.form)) + 7

abbrev pub decreases-update : goal.decreases-update
decreases-update l = 16 * (max (size-WordTargetForm l.to.now.form) (size-WordForm l.value.now.form)) + 7

abbrev pub decreases-update_at : goal.decreases-update_at
decreases-update_at l = 16 * (max (size-WordForm l.p.now.form) (size-WordForm l.value.now.form)) + 6

abbrev pub decreases-update_place : goal.decreases-update_place
decreases-update_place l = 16 * (size-WordForm l.e.now.form) + 3

abbrev pub decreases-point_kept : goal.decreases-point_kept
decreases-point_kept l = 16 * (size-WordForm l.p.now.form) + 2

abbrev pub decreases-update_through : goal.decreases-update_through
decreases-update_through l = 16 * (max (size-WordForm l.p.now.form) (size-WordForm l.e.now.form)) + 4

abbrev pub decreases-place : goal.decreases-place
decreases-place l = 16 * (size-WordTargetForm l.to.now.form) + 4

abbrev pub decreases-step : goal.decreases-step
decreases-step l = 16 * (size-WordTargetForm l.to.now.form) + 5

abbrev pub decreases-step_before : goal.decreases-step_before
decreases-step_before l = 16 * (size-WordTargetForm l.to.now.form) + 6

abbrev pub decreases-step_after : goal.decreases-step_after
decreases-step_after l = 16 * (size-WordTargetForm l.to.now.form) + 6

abbrev pub decreases-point_step : goal.decreases-point_step
decreases-point_step l = 16 * (size-WordTargetForm l.to.now.form) + 7

abbrev pub decreases-put : goal.decreases-put
decreases-put l = 16 * (size-WordForm l.value.now.form) + 1

abbrev pub decreases-call : goal.decreases-call
decreases-call l = 16 * (goal.size-call l) + 5

abbrev pub decreases-arguments : goal.decreases-arguments
decreases-arguments l = 16 * (goal.size-arguments l) + 4

abbrev pub decreases-condition : goal.decreases-condition
decreases-condition l = 16 * (size-WordForm l.e.now.form) + 5

abbrev pub decreases-tested : goal.decreases-tested
decreases-tested l = 16 * (size-WordForm l.e.now.form) + 4

abbrev pub decreases-is_not_zero : goal.decreases-is_not_zero
decreases-is_not_zero l = 16 * (size-WordForm l.e.now.form) + 2

abbrev pub decreases-question : goal.decreases-question
decreases-question l = 16 * (size-WordForm l.e.now.form) + 3

abbrev pub decreases-binary_question : goal.decreases-binary_question
decreases-binary_question l = 16 * (max (size-WordForm l.left.now.form) (size-WordForm l.right.now.form)) + 6

abbrev pub decreases-and : goal.decreases-and
decreases-and l = 16 * (max (size-WordForm l.left.now.form) (size-WordForm l.right.now.form)) + 9

abbrev pub decreases-or : goal.decreases-or
decreases-or l = 16 * (max (size-WordForm l.left.now.form) (size-WordForm l.right.now.form)) + 9

abbrev pub decreases-joined : goal.decreases-joined
decreases-joined l = 16 * (max (size-WordForm l.left.now.form) (size-WordForm l.right.now.form)) + 7

abbrev pub decreases-needs_both : goal.decreases-needs_both
decreases-needs_both l = 16 * (max (size-WordForm l.left.now.form) (size-WordForm l.right.now.form)) + 8

abbrev pub decreases-needs_either : goal.decreases-needs_either
decreases-needs_either l = 16 * (max (size-WordForm l.left.now.form) (size-WordForm l.right.now.form)) + 8

abbrev pub decreases-both : goal.decreases-both
decreases-both l = 16 * (max (size-WordForm l.left.now.form) (size-WordForm l.right.now.form)) + 6

abbrev pub decreases-either : goal.decreases-either
decreases-either l = 16 * (max (size-WordForm l.left.now.form) (size-WordForm l.right.now.form)) + 6

-- the arguments from the place of the loop on are still to come
abbrev pub invariant-arguments-loop-e : goal.invariant-arguments-loop-e
invariant-arguments-loop-e l = record {
  waits : l.waits ≡ l.t + min l.e-index (length l.args - 1);
  left : l.left + l.e-index ≡ length l.args;
  code : item_list l.code.items ⧺ arguments_from l.function l.e-index l.args l.t
      ≡ item_list l.initial.code.items ⧺ arguments l.function 0 (word_argument_list l.args) l.t;
}
