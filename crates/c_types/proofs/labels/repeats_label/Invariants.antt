use Rattle.std.proofs.Common.{◌≡◌, ◌==◌, drop}
use Rattle.std.specs.HashSet.{contains}
use Rattle.c_tree.specs.View.{choice_list}
use Rattle.c_rules.specs.Statements as rules
use Rattle.c_types.proofs.LabelLemmas.{repeats_from}
use Rattle.c_types.proofs.labels.repeats_label.Given as goal

-- whether a label among the others is among those so far, or stands twice
abbrev pub invariant-loop-choice : goal.invariant-loop-choice
invariant-loop-choice l =
    rules.repeats_label (choice_list l.choices) ≡ repeats_from (λ w. contains (λ a b. a == b) l.cases w) l.has_default (choice_list (drop l.choice-index l.choices))
