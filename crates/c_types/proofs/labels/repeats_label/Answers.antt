use Rattle.std.proofs.Common.{◌==◌, ℕ, ap, refl, ◌∙◌}
use Rattle.std.specs.HashSet.{contains}
use Rattle.c_types.proofs.LabelLemmas.{at_first, not_there, after_case, after_default, after_body}
use Rattle.c_types.proofs.labels.repeats_label.Goals as goal
use Rattle.c_types.proofs.labels.repeats_label.Goals.{in-Case+in_ok-insert-in-Case+else-not-branch, in-Default+else-has_default, in-Body}

pub loop-choice-init : goal.loop-choice-init
loop-choice-init c = at_first c.new-cases.result c.args.choices.now _ c.new-cases.ensures.empty refl

pub loop-choice-preserved : goal.loop-choice-preserved
loop-choice-preserved c = elim c.match-choice.branch [
  | in-Case+in_ok-insert-in-Case+else-not-branch w ↦
      after_case _ _ _ c.args.choices.now c.loop-choice.choice-index c.choice-item.result c.loop-choice.invariant c.choice-item.is c.loop-choice-test.true _ _ w.in-Case.word w.in-Case.is
      (not_there _ _ w.in_ok-insert-in-Case.ensures.added w.if-not-branch.false)
      (λ (q : ℕ). ap (λ s. contains (λ a b. a == b) s q) w.cases-is ∙ w.in_ok-insert-in-Case.ensures.updates.0 q) w.has_default-is
  | in-Default+else-has_default w ↦
      after_default _ _ _ c.args.choices.now c.loop-choice.choice-index c.choice-item.result c.loop-choice.invariant c.choice-item.is c.loop-choice-test.true _ _ w.in-Default.is w.if-has_default.false
      (λ (q : ℕ). ap (λ s. contains (λ a b. a == b) s q) w.cases-is) w.has_default-is
  | in-Body w ↦
      after_body _ _ _ c.args.choices.now c.loop-choice.choice-index c.choice-item.result c.loop-choice.invariant c.choice-item.is c.loop-choice-test.true _ _ _ w.in-Body.is
      (λ (q : ℕ). ap (λ s. contains (λ a b. a == b) s q) w.cases-is) w.has_default-is
]
