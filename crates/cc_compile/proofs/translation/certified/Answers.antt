use Rattle.std.proofs.Common.{◌∙◌, sym, subst}
use Rattle.std.specs.Prelude.{All, List}
use Rattle.acc_code.specs.AccTree.{FunctionItems}
use Rattle.acc_code.specs.AccView.{functions_of}
use Rattle.frame_layouts.specs.Frames.{AreBased, jobs_in}
use Rattle.frame_layouts.specs.lay_cert.Frames.{IsFrame}
use Rattle.frame_layouts.specs.mem_plan.declared.data_plan.FramePlan.{FramePlan}
use Rattle.tree_code.specs.ProgramView.{tree_of}
use Rattle.word_base.specs.Name.{IsName}
use Rattle.cc_compile.proofs.LayoutLemmas.{all_based, all_named, one_each}
use Rattle.cc_compile.proofs.translation.certified.Goals as goal

pub certificate_of-requires : goal.certificate_of-requires
certificate_of-requires c =
    let s = c.args.selection.now in
    let l = c.args.planned.layouts in
    let p = tree_of s.tree in
    let plans = c.requires.planned in
    let count = one_each (jobs_in l) (functions_of s.code) plans.jobs ∙ c.requires.selection.emittable.count in
    let based = subst (λ (xs : List FramePlan). AreBased (jobs_in l) xs) (sym c.as_slice.ensures) (all_based (jobs_in l) p c.args.planned.plan count plans.plan) in
    let names = subst (λ (gs : List FunctionItems). All (λ (g : FunctionItems). IsName g.name) gs) (sym c.requires.selection.code) (all_named p s.tree.well_formed) in
    let each = c.frames_are_arranged.ensures.each (functions_of s.code) (jobs_in l) c.as_slice.result.now plans.jobs.each names based in
    subst (All IsFrame) (sym (c.frames_are_arranged.ensures.same (functions_of s.code) (jobs_in l) l c.as_slice.result.now plans.layouts)) each
