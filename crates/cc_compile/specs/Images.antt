-- What a typed program becomes (docs/TRANSLATION.md): word trees, accumulator code, layouts of frames, a plan of data memory, pieces, an image and a
-- certificate. A command chooses how frames are laid out.
use Rattle.std.specs.Prelude.{◌≡◌, ℕ, ◌<◌, ◌≤◌, List, ◌++◌, map, All}
use Rattle.word_base.specs.Ports.{Input, IsInput}
use Rattle.c_tree.specs.TypedTree.{ProgramTree}
use Rattle.tree_code.specs.WordTree.{ProgramCode}
use Rattle.tree_code.specs.Lowered.{lowered_program}
use Rattle.acc_code.specs.AccTree.{FunctionItems}
use Rattle.image_proof.specs.acc_select.Selected.{selected}
use Rattle.frame_layouts.specs.mem_plan.declared.data_plan.DataPlan.{DataPlan}
use Rattle.frame_layouts.specs.mem_plan.declared.data_plan.PlanFault.{PlanFault}
use Rattle.frame_layouts.specs.mem_plan.declared.data_plan.PlanFault.TheVariants as plan_faults
use Rattle.frame_layouts.specs.mem_plan.Plan.{IsPlan, IsTooLarge}
use Rattle.image_proof.specs.frame_emit.Emitted.{emitted}
use Rattle.image_proof.specs.acc_select_proof.SourceSequences.{source_sequence}
use Rattle.image_proof.specs.ir_semantics.Keeps.{Keeps, acc_run, tree_run}
use Rattle.image_proof.specs.ir_semantics.SourceWork.{worked_run}
use Rattle.image_proof.specs.PlanPlaces.{places_of}
use Rattle.image_proof.specs.Agreeing.{emission_of}
use Rattle.image_proof.specs.Directs.{AreDirect}
use Rattle.image_proof.specs.Leading.{AllHaveTargets}
use Rattle.image_proof.specs.Listing.{AllListFrames}
use Rattle.frame_layouts.specs.lay_cert.Frames.{Frame}
use Rattle.frame_layouts.specs.declared.options.Options.{Options}
use Rattle.frame_layouts.specs.Frames.{IsJob, job_with, layout_of, frames_of}
use Rattle.frame_layouts.specs.lay_par.Jobs.{Job}
use Rattle.c25_isa.specs.Image.{Contents}
use Rattle.c25_isa.specs.Pieces.{Piece, Linked, PiecesFit}
use Rattle.image_proof.specs.c25_helper.Calls.{called_helper_pieces}
use Rattle.c25_link.specs.Linking.{linked_image, pieces_words}
use Rattle.c25_link.specs.declared.fault.LinkFault.{LinkFault}
use Rattle.c25_link.specs.declared.fault.LinkFault.TheVariants as link_faults

-- what is searched for the frames of a program: a job for each of its functions, in order, and the step by which a move may be free, beside one by 1
pub record FrameJobs : Type 0 where
  pub step : ℕ
  pub jobs : List Job

abbrev pub jobs_at : ℕ → List Job → FrameJobs
jobs_at step jobs = record { step = step; jobs = jobs }

-- jobs have answers, and there is one for each function, over its scalars
pub record AreJobs (jobs : List Job) (gs : List FunctionItems) : Type 0 where
  pub each : All IsJob jobs
  pub scalars : map (λ (job : Job). job.sequence.scalars) jobs ≡ map (λ (g : FunctionItems). g.scalars) gs

-- a program as it is compiled is laid out for the accesses of its functions, each block of which counts once
abbrev pub source_jobs : Options → ProgramTree → FrameJobs
source_jobs o t = jobs_at o.step (map (job_with o) (map (source_sequence o.step) t.functions))

-- the layouts of a program's frames
abbrev pub layouts : FrameJobs → List (List (List ℕ))
layouts o = map layout_of o.jobs

-- the pieces of a program by a plan, and with the routines that they call
abbrev pub own_pieces : FrameJobs → ProgramCode → DataPlan → List Piece
own_pieces o p plan = emitted p (selected p) plan (layouts o) o.step

abbrev pub with_helpers : List Piece → List Piece
with_helpers pieces = pieces ++ called_helper_pieces pieces

abbrev pub all_pieces : FrameJobs → ProgramCode → DataPlan → List Piece
all_pieces o p plan = with_helpers (own_pieces o p plan)

-- the plan of a typed program
abbrev pub IsPlanOf : FrameJobs → ProgramTree → DataPlan → Type 0
IsPlanOf o t plan = IsPlan (lowered_program t) (layouts o) plan

-- a typed program has this image: it is linked from the pieces that are emitted and the routines that they call
pub record HasImage (o : FrameJobs) (t : ProgramTree) (image : Contents) : Type 0 where
  pub plan : DataPlan
  pub planned : IsPlanOf o t plan
  pub fits : pieces_words (all_pieces o (lowered_program t) plan) ≤ 65536
  pub is : image ≡ linked_image (all_pieces o (lowered_program t) plan)
  pub linked : Linked (all_pieces o (lowered_program t) plan) image
  pub ranges : PiecesFit (all_pieces o (lowered_program t) plan)

-- and these frames, in the order of its functions
pub record HasFrames (o : FrameJobs) (t : ProgramTree) (frames : List Frame) : Type 0 where
  pub plan : DataPlan
  pub planned : IsPlanOf o t plan
  pub are : frames ≡ frames_of (selected (lowered_program t)) o.jobs plan.frames

-- what its accumulator code does, with objects where a plan of it has them, is what the program does, on any input and with any number of turns, with no
-- more work
abbrev pub KeepsRuns : FrameJobs → ProgramTree → Type 0
KeepsRuns o t = (plan : DataPlan) → IsPlanOf o t plan → (input : Input) (n : ℕ) → IsInput input
    → Keeps (worked_run t input n) (acc_run (places_of plan) (lowered_program t) (selected (lowered_program t)) input n)

-- so is what its word tree does
abbrev pub TreeKeepsRuns : FrameJobs → ProgramTree → Type 0
TreeKeepsRuns o t = (plan : DataPlan) → IsPlanOf o t plan → (input : Input) (n : ℕ) → IsInput input
    → Keeps (worked_run t input n) (tree_run (places_of plan) (lowered_program t) input n)

-- the direct operands of each function name no word of its scalars
abbrev pub IsDirect : FrameJobs → ProgramTree → Contents → Type 0
IsDirect o t image = (plan : DataPlan) → IsPlanOf o t plan → AreDirect (emission_of t plan (layouts o) o.step) image

-- the image is linked from the pieces so that the jumps of each function lead to first words of instructions of its range, and its calls to first
-- words of ranges or of routines
abbrev pub LeadsRight : FrameJobs → ProgramTree → Contents → Type 0
LeadsRight o t image = (plan : DataPlan) → IsPlanOf o t plan → (linked : Linked (all_pieces o (lowered_program t) plan) image)
    × AllHaveTargets (emission_of t plan (layouts o) o.step) (called_helper_pieces (own_pieces o (lowered_program t) plan)) linked.place image

-- along the function's code in each run of the image, each access to a word of a scalar of the function is one that a walk lists, or goes through
-- another address register than AR2 to AR5
abbrev pub ListsFrames : FrameJobs → ProgramTree → Contents → Type 0
ListsFrames o t image = (plan : DataPlan) → IsPlanOf o t plan → AllListFrames (emission_of t plan (layouts o) o.step) image

-- its data need so many words, which are too many
abbrev pub HasTooMuchData : ProgramTree → ℕ → Type 0
HasTooMuchData t words = IsTooLarge (lowered_program t) words

-- its code takes so many words, which are too many
pub record HasTooMuchCode (o : FrameJobs) (t : ProgramTree) (words : ℕ) : Type 0 where
  pub plan : DataPlan
  pub planned : IsPlanOf o t plan
  pub is : words ≡ pieces_words (all_pieces o (lowered_program t) plan)
  pub over : 65536 < words

-- what each fault says of a typed program. Want of memory is no fault of it
abbrev pub HasPlanFault : ProgramTree → PlanFault → Type 0
HasPlanFault t (plan_faults.DataFull words) = HasTooMuchData t words
HasPlanFault t plan_faults.NoMemory = ⊥

abbrev pub HasLinkFault : FrameJobs → ProgramTree → LinkFault → Type 0
HasLinkFault o t (link_faults.CodeFull words) = HasTooMuchCode o t words
HasLinkFault o t link_faults.NoMemory = ⊥
