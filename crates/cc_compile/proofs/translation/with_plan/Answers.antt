use Rattle.std.proofs.Common.{◌∙◌, List, length, map, ap, sym, subst}
use Rattle.std.proofs.lemmas.List.{length-map}
use Rattle.acc_code.specs.AccView.{function_items_of, functions_of}
use Rattle.tree_code.specs.ProgramView.{tree_of}
use Rattle.frame_layouts.specs.mem_plan.Plan.{AreArranged, IsPlan}
use Rattle.frame_layouts.specs.Frames.{AreLayouts, layout_of}
use Rattle.frame_layouts.specs.lay_par.Jobs.{Job}
use Rattle.cc_compile.specs.Images.{AreJobs}
use Rattle.cc_compile.proofs.LayoutLemmas.{all_arranged, one_each}
use Rattle.cc_compile.proofs.translation.with_plan.Goals as goal

pub lay_out-requires-clause-one_each : goal.lay_out-requires-clause-one_each
lay_out-requires-clause-one_each g c = λ κs lives.
    one_each c.args.jobs.items (functions_of c.args.selection.now.code) c.requires.jobs ∙ ap length (sym c.functions.ensures.same) ∙ length-map c.functions.result.now function_items_of

pub plan-requires : goal.plan-requires
plan-requires g c =
    let s = c.args.selection.now in
    subst (AreArranged (tree_of s.tree).functions) (sym (c.deref.ensures.value ∙ c.in_ok-layouts.ensures.arrangements))
    (all_arranged c.args.jobs.items (tree_of s.tree) (functions_of s.code) c.layouts_are_arranged.ensures c.requires.selection.emittable c.requires.jobs)

pub returns-clause-arranged : goal.returns-clause-arranged
returns-clause-arranged g c =
    let s = c.args.selection.now in
    all_arranged c.args.jobs.items (tree_of s.tree) (functions_of s.code) c.layouts_are_arranged.ensures c.requires.selection.emittable c.requires.jobs

pub returns-clause-jobs : goal.returns-clause-jobs
returns-clause-jobs g c =
    let gs = functions_of c.args.selection.now.code in
    let are = subst (λ fs. AreLayouts fs c.args.jobs.items c.in_ok-layouts.layouts) c.functions.ensures.same c.in_ok-layouts.ensures in
    c.frames_are_arranged.ensures.jobs gs c.args.jobs.items c.in_ok-layouts.layouts (one_each c.args.jobs.items gs c.requires.jobs) are

pub returns-clause-planned : goal.returns-clause-planned
returns-clause-planned g c =
    let s = c.args.selection.now in
    let gs = functions_of s.code in
    let are = subst (λ fs. AreLayouts fs c.args.jobs.items c.in_ok-layouts.layouts) c.functions.ensures.same c.in_ok-layouts.ensures in
    let kept = sym (c.frames_are_arranged.ensures.jobs gs c.args.jobs.items c.in_ok-layouts.layouts (one_each c.args.jobs.items gs c.requires.jobs) are) in
    record {
      jobs = subst (λ (jobs : List Job). AreJobs jobs gs) kept c.requires.jobs;
      layouts = subst (λ (jobs : List Job). AreLayouts gs jobs c.in_ok-layouts.layouts) kept are;
      plan = subst (λ (jobs : List Job). IsPlan (tree_of s.tree) (map layout_of jobs) c.in_ok-plan.plan) kept
          (subst (λ lists. IsPlan (tree_of s.tree) lists c.in_ok-plan.plan) (c.deref.ensures.value ∙ are.arrangements) c.in_ok-plan.ensures.plan);
    }
