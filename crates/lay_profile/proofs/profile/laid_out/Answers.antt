use Rattle.std.proofs.Common.{◌≢◌, ◌∙◌, List, map, ap, sym, subst}
use Rattle.acc_code.specs.AccView.{function_items_of, functions_of}
use Rattle.acc_code.specs.declared.program.AccFunction.{AccFunction}
use Rattle.lay_model.specs.Sequences.{Sequence}
use Rattle.cc_compile.specs.Images.{FrameJobs, HasFrames, HasImage, IsDirect, KeepsRuns, LeadsRight, ListsFrames, TreeKeepsRuns}
use Rattle.cc_compile.specs.TranslationFaults.{Says}
use Rattle.cc_compile.specs.frame_layouts.Frames.{job_with}
use Rattle.cc_compile.specs.frame_layouts.lay_par.Jobs.{Job}
use Rattle.cc_compile.specs.image_proof.acc_select.Selected.{selected}
use Rattle.cc_compile.specs.image_proof.acc_select_proof.SourceSequences.{at_step}
use Rattle.lay_profile.specs.PartFaults.{of_translation_fault}
use Rattle.lay_profile.specs.Profiles.{HasLayoutFault}
use Rattle.lay_profile.specs.Recordings.{entered_from, recording_of, search_options, weighed_from}
use Rattle.lay_profile.specs.ShapedFunctions.{ArePlaced}
use Rattle.lay_profile.specs.declared.fault.ProfileFault.{ProfileFault}
use Rattle.lay_profile.specs.declared.fault.ProfileFault.TheVariants as faults
use Rattle.lay_profile.specs.declared.shapes.Shaped.{Shaped}
use Rattle.lay_profile.proofs.FaultLemmas.{passed_on}
use Rattle.lay_profile.proofs.Kept.{same_accesses, same_names, shapes_back, shapes_kept}
use Rattle.cc_compile.proofs.Promised.{names_in}
use Rattle.lay_profile.proofs.Profiling.{accesses_shaped, fault_says, jobs_for, run_costs, searched_count, searched_jobs, sequences_of}
use Rattle.lay_profile.proofs.Short.{placed_of}
use Rattle.lay_profile.proofs.profile.laid_out.Goals as goal

pub returns-in_err-shaped-clause-refused : goal.returns-in_err-shaped-clause-refused
returns-in_err-shaped-clause-refused g c = λ t is.
    let o = c.args.options in
    let r = recording_of c.args.first.now c.args.ports.now c.args.options.steps in
    let fs = c.functions.result.now in
    let given : ProfileFault = c.in_err-shaped.field-0.0 in
    let chosen = is.code.code ∙ ap selected is.tree in
    let names = same_names fs (functions_of c.args.selection.now.code) t c.functions.ensures.same chosen in
    let seqs = ap (map (at_step 1)) c.functions.ensures.same ∙ same_accesses c.accesses_are_kept.ensures.sequences (functions_of c.args.selection.now.code) t is.typed chosen in
    passed_on c.from_residual.result given (λ (why : ProfileFault). why ≢ faults.NoMemory → HasLayoutFault o r t why) c.from_residual.ensures.1
    (λ some.
    subst (HasLayoutFault o r t) (sym (c.in_err-shaped.ensures.other some))
    (λ shape. c.in_err-shaped.ensures.not_shaped some (shapes_back c.args.first.now (map (λ (f : AccFunction). f.name) fs) (map (at_step 1) (map function_items_of fs)) t names seqs shape)))

pub record_run-requires-clause-placed : goal.record_run-requires-clause-placed
record_run-requires-clause-placed g c =
    subst (ArePlaced c.args.first.now) (sym c.deref.ensures.value)
    (placed_of c.args.first.now (map function_items_of c.functions.result.now) c.in_ok-shaped.shaped.items c.in_ok-shaped.ensures.image c.in_ok-shaped.ensures.shaped)

pub translate_by_jobs-requires-clause-jobs : goal.translate_by_jobs-requires-clause-jobs
translate_by_jobs-requires-clause-jobs g c κs within =
    let o = c.args.options in
    let r = recording_of c.args.first.now c.args.ports.now c.args.options.steps in
    let s = c.args.selection.now in
    let gs = functions_of s.code in
    let shaped = c.in_ok-shaped.ensures.shaped in
    let own = accesses_shaped 0 (map function_items_of c.functions.result.now) c.in_ok-shaped.shaped.items shaped.count (λ j f x here there. (shaped.each j f x here there).accesses) in
    let seqs = ap (map (λ (x : Shaped). x.accesses)) c.deref.ensures.value ∙ own ∙ ap (map (at_step 1)) c.functions.ensures.same in
    let are = c.in_ok-recorded.ensures.jobs ∙ ap (λ (xs : List Sequence). map (job_with (search_options o)) (weighed_from r 0 xs)) seqs in
    jobs_for (search_options o) r gs c.in_ok-recorded.recorded.jobs.items are c.in_ok-recorded.ensures.are_jobs

pub returns-in_err-translated-clause-refused : goal.returns-in_err-translated-clause-refused
returns-in_err-translated-clause-refused g c = λ t is.
    let o = c.args.options in
    let r = recording_of c.args.first.now c.args.ports.now c.args.options.steps in
    let s = c.args.selection.now in
    let gs = functions_of s.code in
    let shaped = c.in_ok-shaped.ensures.shaped in
    let own = accesses_shaped 0 (map function_items_of c.functions.result.now) c.in_ok-shaped.shaped.items shaped.count (λ j f x here there. (shaped.each j f x here there).accesses) in
    let seqs = ap (map (λ (x : Shaped). x.accesses)) c.deref.ensures.value ∙ own ∙ ap (map (at_step 1)) c.functions.ensures.same in
    let chosen = is.code.code ∙ ap selected is.tree in
    let names = same_names c.functions.result.now gs t c.functions.ensures.same chosen in
    let alike = same_accesses c.accesses_are_kept.ensures.sequences gs t is.typed chosen in
    let kept = searched_jobs o r t _ c.in_ok-recorded.recorded.jobs.items (seqs ∙ alike) c.in_ok-recorded.ensures.jobs in
    let shape = shapes_kept c.args.first.now _ _ t names (ap (map (at_step 1)) c.functions.ensures.same ∙ alike) c.in_ok-shaped.ensures.shapes in
    let fault = c.in_err-translated.field-0.0 in
    passed_on c.from_residual-in_err-translated.result (of_translation_fault fault) (λ (why : ProfileFault). why ≢ faults.NoMemory → HasLayoutFault o r t why) c.from_residual-in_err-translated.ensures.1
    (fault_says o r t fault shape (subst (λ (x : FrameJobs). Says x t fault) kept (c.in_err-translated.ensures.refused t is)))

pub returns-clause-laid_out : goal.returns-clause-laid_out
returns-clause-laid_out g c = λ t is.
    let o = c.args.options in
    let r = recording_of c.args.first.now c.args.ports.now c.args.options.steps in
    let s = c.args.selection.now in
    let gs = functions_of s.code in
    let shaped = c.in_ok-shaped.ensures.shaped in
    let own = accesses_shaped 0 (map function_items_of c.functions.result.now) c.in_ok-shaped.shaped.items shaped.count (λ j f x here there. (shaped.each j f x here there).accesses) in
    let seqs = ap (map (λ (x : Shaped). x.accesses)) c.deref.ensures.value ∙ own ∙ ap (map (at_step 1)) c.functions.ensures.same in
    let chosen = is.code.code ∙ ap selected is.tree in
    let names = same_names c.functions.result.now gs t c.functions.ensures.same chosen in
    let alike = same_accesses c.accesses_are_kept.ensures.sequences gs t is.typed chosen in
    let kept = searched_jobs o r t _ c.in_ok-recorded.recorded.jobs.items (seqs ∙ alike) c.in_ok-recorded.ensures.jobs in
    let made = c.in_ok-translated.translated in
    let sequences =
    c.in_ok-translated.ensures.sequences ∙ ap (map (λ (job : Job). job.sequence)) (ap (λ (x : FrameJobs). x.jobs) kept)
    ∙ sequences_of (search_options o) _ in
    let framed = subst (λ (x : FrameJobs). HasFrames x t made.certificate) kept (c.in_ok-translated.ensures.frames t is) in
    let has = subst (λ (x : FrameJobs). HasImage x t made.image) kept (c.in_ok-translated.ensures.image t is) in
    record {
      shape = shapes_kept c.args.first.now _ _ t names (ap (map (at_step 1)) c.functions.ensures.same ∙ alike) c.in_ok-shaped.ensures.shapes;
      has = has;
      framed = framed;
      names = names_in _ t (searched_count o r t) framed.plan framed.planned made.image made.certificate framed.are has;
      sequences = sequences;
      costs = run_costs c.weighed_costs_the_run.ensures.cost c.weighed_costs_the_run.ensures.arranged c.weighed_costs_the_run.ensures.places r _ made.certificate sequences c.in_ok-translated.ensures.claims;
      keeps = subst (λ (x : FrameJobs). ∥ KeepsRuns x t ∥₁) kept (c.in_ok-translated.ensures.keeps t is);
      tree = subst (λ (x : FrameJobs). ∥ TreeKeepsRuns x t ∥₁) kept (c.in_ok-translated.ensures.tree t is);
      agrees = c.in_ok-translated.ensures.agrees t is;
      in_time = c.in_ok-translated.ensures.in_time t is;
      walked = c.in_ok-translated.ensures.walked t is;
      direct = subst (λ (x : FrameJobs). ∥ IsDirect x t made.image ∥₁) kept (c.in_ok-translated.ensures.direct t is);
      leads = subst (λ (x : FrameJobs). ∥ LeadsRight x t made.image ∥₁) kept (c.in_ok-translated.ensures.leads t is);
      listed = subst (λ (x : FrameJobs). ∥ ListsFrames x t made.image ∥₁) kept (c.in_ok-translated.ensures.listed t is);
      is_entered = c.in_ok-recorded.ensures.entered ∙ ap (entered_from r 0) (seqs ∙ alike);
    }
