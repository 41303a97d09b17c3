use Rattle.std.proofs.Common.{◌∙◌, map, ap, subst}
use Rattle.std.specs.Prelude.{IfOk, IfErr}
use Rattle.acc_code.specs.AccView.{functions_of}
use Rattle.std.proofs.Math.Logic.{∥∥₁_map}
use Rattle.image_proof.specs.acc_select_proof.SourceSequences.{source_sequence}
use Rattle.c_tree.specs.ProgramView.{program_of}
use Rattle.tree_code.specs.ProgramView.{tree_of}
use Rattle.frame_layouts.specs.Frames.{job_of}
use Rattle.cc_compile.specs.TranslationFaults.{Says}
use Rattle.cc_compile.specs.Images.{FrameJobs, HasFrames, HasImage, IsDirect, KeepsRuns, LeadsRight, ListsFrames, TreeKeepsRuns}
use Rattle.cc_compile.proofs.AgreementLemmas.{ok_of_three}
use Rattle.cc_compile.proofs.SourceJobs.{are_jobs, are_source_jobs, source_sequences}
use Rattle.cc_compile.proofs.WalkLemmas.{own_walks}
use Rattle.cc_compile.proofs.TranslationLemmas.{ok_then}
use Rattle.cc_compile.proofs.translation.translate.Goals as goal

pub translate_by_jobs-requires-clause-jobs : goal.translate_by_jobs-requires-clause-jobs
translate_by_jobs-requires-clause-jobs g c = λ κs lives.
    are_jobs c.args.options (functions_of c.in_ok-selection.selection.code) c.in_ok-jobs.jobs.items (c.in_ok-jobs.ensures.jobs ∙ ap (map (job_of c.args.options)) c.functions.ensures.same) c.in_ok-jobs.ensures.are_jobs

pub returns-clause-image : goal.returns-clause-image
returns-clause-image g c =
    let t = program_of c.args.program.now in
    let kept = are_source_jobs c.accesses_are_kept.ensures.sequences c.args.options t (tree_of c.in_ok-selection.selection.tree) (functions_of c.in_ok-selection.selection.code) c.in_ok-jobs.jobs.items c.in_ok-selection.ensures.typed
    c.in_ok-selection.ensures.tree c.in_ok-selection.ensures.code.code (c.in_ok-jobs.ensures.jobs ∙ ap (map (job_of c.args.options)) c.functions.ensures.same) in
    subst (λ (o : FrameJobs). IfOk c.translate_by_jobs.result (λ made. HasImage o t made.image)) kept (c.translate_by_jobs.ensures.image t c.in_ok-selection.ensures)

pub returns-clause-frames : goal.returns-clause-frames
returns-clause-frames g c =
    let t = program_of c.args.program.now in
    let kept = are_source_jobs c.accesses_are_kept.ensures.sequences c.args.options t (tree_of c.in_ok-selection.selection.tree) (functions_of c.in_ok-selection.selection.code) c.in_ok-jobs.jobs.items c.in_ok-selection.ensures.typed
    c.in_ok-selection.ensures.tree c.in_ok-selection.ensures.code.code (c.in_ok-jobs.ensures.jobs ∙ ap (map (job_of c.args.options)) c.functions.ensures.same) in
    subst (λ (o : FrameJobs). IfOk c.translate_by_jobs.result (λ made. HasFrames o t made.certificate)) kept (c.translate_by_jobs.ensures.frames t c.in_ok-selection.ensures)

pub returns-clause-keeps : goal.returns-clause-keeps
returns-clause-keeps g c =
    let t = program_of c.args.program.now in
    let kept = are_source_jobs c.accesses_are_kept.ensures.sequences c.args.options t (tree_of c.in_ok-selection.selection.tree) (functions_of c.in_ok-selection.selection.code) c.in_ok-jobs.jobs.items c.in_ok-selection.ensures.typed
    c.in_ok-selection.ensures.tree c.in_ok-selection.ensures.code.code (c.in_ok-jobs.ensures.jobs ∙ ap (map (job_of c.args.options)) c.functions.ensures.same) in
    subst (λ (o : FrameJobs). IfOk c.translate_by_jobs.result (λ made. ∥ KeepsRuns o t ∥₁)) kept (c.translate_by_jobs.ensures.keeps t c.in_ok-selection.ensures)

pub returns-clause-tree : goal.returns-clause-tree
returns-clause-tree g c =
    let t = program_of c.args.program.now in
    let kept = are_source_jobs c.accesses_are_kept.ensures.sequences c.args.options t (tree_of c.in_ok-selection.selection.tree) (functions_of c.in_ok-selection.selection.code) c.in_ok-jobs.jobs.items c.in_ok-selection.ensures.typed
    c.in_ok-selection.ensures.tree c.in_ok-selection.ensures.code.code (c.in_ok-jobs.ensures.jobs ∙ ap (map (job_of c.args.options)) c.functions.ensures.same) in
    subst (λ (o : FrameJobs). IfOk c.translate_by_jobs.result (λ made. ∥ TreeKeepsRuns o t ∥₁)) kept (c.translate_by_jobs.ensures.tree t c.in_ok-selection.ensures)

pub returns-clause-in_time : goal.returns-clause-in_time
returns-clause-in_time g c =
    let t = program_of c.args.program.now in
    c.translate_by_jobs.ensures.in_time t c.in_ok-selection.ensures

pub returns-clause-direct : goal.returns-clause-direct
returns-clause-direct g c =
    let t = program_of c.args.program.now in
    let kept = are_source_jobs c.accesses_are_kept.ensures.sequences c.args.options t (tree_of c.in_ok-selection.selection.tree) (functions_of c.in_ok-selection.selection.code) c.in_ok-jobs.jobs.items c.in_ok-selection.ensures.typed
    c.in_ok-selection.ensures.tree c.in_ok-selection.ensures.code.code (c.in_ok-jobs.ensures.jobs ∙ ap (map (job_of c.args.options)) c.functions.ensures.same) in
    subst (λ (o : FrameJobs). IfOk c.translate_by_jobs.result (λ made. ∥ IsDirect o t made.image ∥₁)) kept (c.translate_by_jobs.ensures.direct t c.in_ok-selection.ensures)

pub returns-clause-leads : goal.returns-clause-leads
returns-clause-leads g c =
    let t = program_of c.args.program.now in
    let kept = are_source_jobs c.accesses_are_kept.ensures.sequences c.args.options t (tree_of c.in_ok-selection.selection.tree) (functions_of c.in_ok-selection.selection.code) c.in_ok-jobs.jobs.items c.in_ok-selection.ensures.typed
    c.in_ok-selection.ensures.tree c.in_ok-selection.ensures.code.code (c.in_ok-jobs.ensures.jobs ∙ ap (map (job_of c.args.options)) c.functions.ensures.same) in
    subst (λ (o : FrameJobs). IfOk c.translate_by_jobs.result (λ made. ∥ LeadsRight o t made.image ∥₁)) kept (c.translate_by_jobs.ensures.leads t c.in_ok-selection.ensures)

pub returns-clause-listed : goal.returns-clause-listed
returns-clause-listed g c =
    let t = program_of c.args.program.now in
    let kept = are_source_jobs c.accesses_are_kept.ensures.sequences c.args.options t (tree_of c.in_ok-selection.selection.tree) (functions_of c.in_ok-selection.selection.code) c.in_ok-jobs.jobs.items c.in_ok-selection.ensures.typed
    c.in_ok-selection.ensures.tree c.in_ok-selection.ensures.code.code (c.in_ok-jobs.ensures.jobs ∙ ap (map (job_of c.args.options)) c.functions.ensures.same) in
    subst (λ (o : FrameJobs). IfOk c.translate_by_jobs.result (λ made. ∥ ListsFrames o t made.image ∥₁)) kept (c.translate_by_jobs.ensures.listed t c.in_ok-selection.ensures)

pub returns-clause-refused : goal.returns-clause-refused
returns-clause-refused g c =
    let t = program_of c.args.program.now in
    let kept = are_source_jobs c.accesses_are_kept.ensures.sequences c.args.options t (tree_of c.in_ok-selection.selection.tree) (functions_of c.in_ok-selection.selection.code) c.in_ok-jobs.jobs.items c.in_ok-selection.ensures.typed
    c.in_ok-selection.ensures.tree c.in_ok-selection.ensures.code.code (c.in_ok-jobs.ensures.jobs ∙ ap (map (job_of c.args.options)) c.functions.ensures.same) in
    subst (λ (o : FrameJobs). IfErr c.translate_by_jobs.result (Says o t)) kept (c.translate_by_jobs.ensures.refused t c.in_ok-selection.ensures)

pub returns-clause-accesses : goal.returns-clause-accesses
returns-clause-accesses g c =
    let t = program_of c.args.program.now in
    let sequences = source_sequences c.accesses_are_kept.ensures.sequences c.args.options t (tree_of c.in_ok-selection.selection.tree) (functions_of c.in_ok-selection.selection.code) c.in_ok-jobs.jobs.items c.in_ok-selection.ensures.typed
    c.in_ok-selection.ensures.tree c.in_ok-selection.ensures.code.code (c.in_ok-jobs.ensures.jobs ∙ ap (map (job_of c.args.options)) c.functions.ensures.same) in
    ok_then c.translate_by_jobs.result c.translate_by_jobs.ensures.sequences (λ made are. are ∙ sequences)

pub returns-clause-agrees : goal.returns-clause-agrees
returns-clause-agrees g c =
    let t = program_of c.args.program.now in
    c.translate_by_jobs.ensures.agrees t c.in_ok-selection.ensures

pub returns-clause-walked : goal.returns-clause-walked
returns-clause-walked g c =
    let t = program_of c.args.program.now in
    let sequences = source_sequences c.accesses_are_kept.ensures.sequences c.args.options t (tree_of c.in_ok-selection.selection.tree) (functions_of c.in_ok-selection.selection.code) c.in_ok-jobs.jobs.items c.in_ok-selection.ensures.typed
    c.in_ok-selection.ensures.tree c.in_ok-selection.ensures.code.code (c.in_ok-jobs.ensures.jobs ∙ ap (map (job_of c.args.options)) c.functions.ensures.same) in
    ok_of_three c.translate_by_jobs.result (c.translate_by_jobs.ensures.walked t c.in_ok-selection.ensures) c.translate_by_jobs.ensures.sequences c.translate_by_jobs.ensures.claims
    (λ made walks are claims. ∥∥₁_map walks (own_walks made.image (map (source_sequence c.args.options.step) t.functions) made.certificate (are ∙ sequences) claims))

pub returns-clause-apart : goal.returns-clause-apart
returns-clause-apart g c = c.translate_by_jobs.ensures.apart (program_of c.args.program.now) c.in_ok-selection.ensures
