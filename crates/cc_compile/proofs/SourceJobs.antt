-- The jobs for a program as it is compiled.
use Rattle.std.proofs.Common.{◌≡◌, ◌∙◌, List, [], ◌∷◌, map, refl, ap}
use Rattle.std.specs.Prelude.{All}
use Rattle.c_tree.specs.TypedTree.{ProgramTree}
use Rattle.c_tree.specs.WellFormedProgram.{IsProgram}
use Rattle.tree_code.specs.Lowered.{lowered_program}
use Rattle.tree_code.specs.WordTree.{ProgramCode}
use Rattle.acc_code.specs.AccTree.{FunctionItems}
use Rattle.image_proof.specs.acc_select.Selected.{selected}
use Rattle.frame_layouts.specs.declared.options.Options.{Options}
use Rattle.frame_layouts.specs.Frames.{IsJob, job_of, job_with}
use Rattle.frame_layouts.specs.lay_par.Jobs.{Job}
use Rattle.image_proof.specs.acc_select_proof.SourceSequences.{at_step, source_sequence}
use Rattle.cc_compile.specs.Images.{AreJobs, jobs_at, source_jobs}
use Rattle.cc_compile.proofs.WalkLemmas.{SequencesKept}

sequences_searched : (o : Options) (gs : List FunctionItems) → map (job_of o) gs ≡ map (job_with o) (map (at_step o.step) gs)
sequences_searched o [] = refl
sequences_searched o (g ∷ gs) = ap (λ jobs. job_of o g ∷ jobs) (sequences_searched o gs)

pub are_source_jobs : SequencesKept → (o : Options) (t : ProgramTree) (p : ProgramCode) (gs : List FunctionItems) (jobs : List Job) → ∥ IsProgram t ∥₁ → p ≡ lowered_program t → gs ≡ selected p → jobs ≡ map (job_of o) gs
    → jobs_at o.step jobs ≡ source_jobs o t
are_source_jobs kept o t p gs jobs known same chosen are =
    ap (jobs_at o.step)
    (are
    ∙ sequences_searched o gs
    ∙ ap (λ xs. map (job_with o) (map (at_step o.step) xs)) (chosen ∙ ap selected same)
    ∙ ap (map (job_with o)) (kept o.step t known))

scalars_kept : (o : Options) (gs : List FunctionItems) → map (λ (job : Job). job.sequence.scalars) (map (job_of o) gs) ≡ map (λ (g : FunctionItems). g.scalars) gs
scalars_kept o [] = refl
scalars_kept o (g ∷ gs) = ap (λ ns. g.scalars ∷ ns) (scalars_kept o gs)

pub are_jobs : (o : Options) (gs : List FunctionItems) (jobs : List Job) → jobs ≡ map (job_of o) gs → All IsJob jobs → AreJobs jobs gs
are_jobs o gs jobs are each = record { each = each; scalars = ap (map (λ (job : Job). job.sequence.scalars)) are ∙ scalars_kept o gs }

sequences_of : (o : Options) (gs : List FunctionItems) → map (λ (job : Job). job.sequence) (map (job_of o) gs) ≡ map (at_step o.step) gs
sequences_of o [] = refl
sequences_of o (g ∷ gs) = ap (λ seqs. at_step o.step g ∷ seqs) (sequences_of o gs)

pub source_sequences : SequencesKept → (o : Options) (t : ProgramTree) (p : ProgramCode) (gs : List FunctionItems) (jobs : List Job) → ∥ IsProgram t ∥₁ → p ≡ lowered_program t → gs ≡ selected p → jobs ≡ map (job_of o) gs
    → map (λ (job : Job). job.sequence) jobs ≡ map (source_sequence o.step) t.functions
source_sequences kept o t p gs jobs known same chosen are =
    ap (map (λ (job : Job). job.sequence)) are
    ∙ sequences_of o gs
    ∙ ap (map (at_step o.step)) (chosen ∙ ap selected same)
    ∙ kept o.step t known
