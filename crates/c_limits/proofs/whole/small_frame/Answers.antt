use Rattle.std.proofs.Common.{◌≡◌, ◌∙◌, ap, length, map, arith}
use Rattle.c_tree.specs.Temporaries.{statement_temporaries}
use Rattle.c_tree.specs.View.{stmt_of}
use Rattle.c_rules.specs.LocalView.{local_tree_of}
use Rattle.c_limits.proofs.FramesLemmas.{scalars_few}
use Rattle.c_limits.proofs.whole.small_frame.Goals as goal

pub overflow_add-scalars : goal.overflow_add-scalars
overflow_add-scalars c =
    let counted = (rw c.in-TooMany.is at c.in_ok-scalars.ensures).0
    in let few = scalars_few c.args.uses.now (map local_tree_of c.deref-2.result.now)
    in let long = ap (λ ls. length (map local_tree_of ls)) c.deref-2.ensures.value
    in let needed = c.temporaries_of-temporaries.ensures ∙ ap (λ b. statement_temporaries (stmt_of b)) c.deref.ensures
    in omega (arith, counted, few, long, needed, c.requires.counted.frame)
