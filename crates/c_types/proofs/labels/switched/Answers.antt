use Rattle.std.proofs.Common.{◌≡◌, rules, ap, sym, ◌∙◌}
use Rattle.c_tree.specs.TypedTree.{Switch}
use Rattle.c_tree.specs.View.{choice_list, expr_of}
use Rattle.c_tree.proofs.Views.{switch_of_list}
use Rattle.c_types.specs.Bodies.{labelled_of, switched}
use Rattle.c_rules.specs.Outcome.{Is}
use Rattle.c_types.proofs.labels.switched.Goals as goal

pub returns-in-Integer : goal.returns-in-Integer
returns-in-Integer c =
    let e : switched c.args.place c.args.at (expr_of c.args.value.value) (labelled_of c.args.labelled) ≡ Is (Switch (expr_of c.args.value.value) (choice_list c.args.labelled.choices.items)) = search rules in
    rw c.into_inner.ensures (e ∙ ap Is (sym (switch_of_list c.args.value.value c.args.labelled.choices)))
