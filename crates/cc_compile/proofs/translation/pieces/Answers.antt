use Rattle.std.proofs.Common.{◌∙◌, map, sym, subst}
use Rattle.std.specs.Prelude.{All, length, ◌≤◌}
use Rattle.acc_code.specs.AccView.{functions_of}
use Rattle.tree_code.specs.ProgramView.{tree_of}
use Rattle.image_proof.proofs.frame_emit.Naming.{statics_fit, few_lists}
use Rattle.frame_layouts.specs.Frames.{jobs_in, layout_of}
use Rattle.cc_compile.proofs.LayoutLemmas.{all_arranged}
use Rattle.cc_compile.proofs.TranslationLemmas.{emittable_right}
use Rattle.cc_compile.proofs.translation.pieces.Goals as goal

pub emit-requires-clause-statics : goal.emit-requires-clause-statics
emit-requires-clause-statics c =
    statics_fit (tree_of c.args.selection.now.tree) (map layout_of (jobs_in c.args.planned.now.layouts)) c.args.planned.now.plan c.requires.planned.plan

pub emit-requires-clause-lists : goal.emit-requires-clause-lists
emit-requires-clause-lists c =
    let s = c.args.selection.now in
    let l = c.args.planned.now.layouts in
    subst (All (λ lists. length lists ≤ 4)) (sym (c.deref.ensures.value ∙ c.requires.planned.layouts.arrangements))
    (few_lists (tree_of s.tree) (map layout_of (jobs_in l))
    (all_arranged (jobs_in l) (tree_of s.tree) (functions_of s.code) c.layouts_are_arranged.ensures c.requires.selection.emittable c.requires.planned.jobs))

pub emit-requires-clause-right : goal.emit-requires-clause-right
emit-requires-clause-right c = emittable_right (tree_of c.args.selection.now.tree) (functions_of c.args.selection.now.code) c.requires.selection.emittable
