-- The direct operands of each function, and where its jumps and calls lead, by the laws of them for the layouts of the program.
use Rattle.std.proofs.Common.{◌≡◌, ◌<◌, ◌≤◌, ℕ, List, length, subst, arith}
use Rattle.std.proofs.Math.Logic.{∥∥₁_map}
use Rattle.c_tree.specs.TypedTree.{ProgramTree}
use Rattle.c_tree.specs.WellFormedProgram.{IsProgram}
use Rattle.tree_code.specs.Lowered.{lowered_program}
use Rattle.c_tree.specs.TypedOfWords.{ProgramHasWords}
use Rattle.tree_code.specs.WordTree.{ProgramCode}
use Rattle.acc_code.specs.AccTree.{FunctionItems}
use Rattle.image_proof.specs.acc_select.IsSelected.{IsEmittable}
use Rattle.image_proof.specs.acc_select.Selected.{selected}
use Rattle.frame_layouts.specs.mem_plan.declared.data_plan.DataPlan.{DataPlan}
use Rattle.frame_layouts.specs.mem_plan.Plan.{AreArranged, IsPlan}
use Rattle.c25_isa.specs.Image.{Contents}
use Rattle.c25_isa.specs.Pieces.{Piece, Linked, PiecesFit}
use Rattle.image_proof.specs.c25_helper.Answering.{AnswersCalls}
use Rattle.image_proof.specs.c25_helper.Calls.{called_helper_pieces}
use Rattle.image_proof.proofs.c25_helper.Answering.{called_answer}
use Rattle.image_proof.specs.Agreeing.{emission_of}
use Rattle.image_proof.specs.Keeping.{all_pieces as emission_pieces, own_pieces as emission_own}
use Rattle.image_proof.specs.Directs.{AreDirect}
use Rattle.image_proof.specs.Emissions.{Emission}
use Rattle.image_proof.specs.Leading.{AllHaveTargets}
use Rattle.image_proof.specs.Listing.{AllListFrames}
use Rattle.cc_compile.specs.Images.{FrameJobs, HasImage, IsDirect, IsPlanOf, LeadsRight, ListsFrames, layouts}
use Rattle.cc_compile.proofs.AgreementLemmas.{image_short}
use Rattle.cc_compile.proofs.OneImage.{one_plan}

-- the routines that a program calls
abbrev called_by : Emission → List Piece
called_by e = called_helper_pieces (emission_own e)

abbrev pieces_of : ProgramTree → DataPlan → List (List (List ℕ)) → ℕ → List Piece
pieces_of t plan arrangements step = emission_pieces (emission_of t plan arrangements step) (called_by (emission_of t plan arrangements step))

-- a law of images for the layouts of a program
module _ (P : Emission → Contents → Type 0) where
  abbrev ForImages : Type 0
  ForImages = (t : ProgramTree) (plan : DataPlan) (arrangements : List (List (List ℕ))) (step : ℕ) (image : Contents) → IsProgram t → ProgramHasWords t → AreArranged (lowered_program t).functions arrangements → IsPlan (lowered_program t) arrangements plan
      → IsEmittable (lowered_program t) (selected (lowered_program t)) → step < 256 → Linked (pieces_of t plan arrangements step) image → PiecesFit (pieces_of t plan arrangements step) → length image.words ≤ 65536 → P (emission_of t plan arrangements step) image

  holds_by : ForImages → (o : FrameJobs) (t : ProgramTree) → o.step ≤ 8 → IsProgram t → ProgramHasWords t → AreArranged (lowered_program t).functions (layouts o) → IsEmittable (lowered_program t) (selected (lowered_program t))
      → (image : Contents) (h : HasImage o t image) → P (emission_of t h.plan (layouts o) o.step) image
  holds_by law o t options is words arranged emittable image h =
      law t h.plan (layouts o) o.step image is words arranged h.planned emittable (omega (arith, options)) h.linked h.ranges (image_short o t image h)

  pub image_holds : ForImages → (o : FrameJobs) (t : ProgramTree) (p : ProgramCode) (gs : List FunctionItems) → o.step ≤ 8 → p ≡ lowered_program t → ∥ IsProgram t ∥₁ → ProgramHasWords t → AreArranged p.functions (layouts o) → IsEmittable p gs → gs ≡ selected p
      → (image : Contents) → HasImage o t image → ∥ ((plan : DataPlan) → IsPlanOf o t plan → P (emission_of t plan (layouts o) o.step) image) ∥₁
  image_holds law o t p gs options same known words arranged emittable chosen image h =
      ∥∥₁_map known
      (λ is plan planned.
      subst (λ x. P (emission_of t x (layouts o) o.step) image) (one_plan o t h.plan plan h.planned planned)
      (holds_by law o t options is words (subst (λ p. AreArranged p.functions (layouts o)) same arranged) (subst (λ p. IsEmittable p (selected p)) same (subst (IsEmittable p) chosen emittable)) image h))

-- the direct operands of each function
abbrev ForDirect : Type 0
ForDirect = (t : ProgramTree) (plan : DataPlan) (arrangements : List (List (List ℕ))) (step : ℕ) (routines : List Piece) (image : Contents) → IsProgram t → ProgramHasWords t → AreArranged (lowered_program t).functions arrangements → IsPlan (lowered_program t) arrangements plan
    → IsEmittable (lowered_program t) (selected (lowered_program t)) → step < 256 → Linked (emission_pieces (emission_of t plan arrangements step) routines) image → PiecesFit (emission_pieces (emission_of t plan arrangements step) routines) → length image.words ≤ 65536
    → AreDirect (emission_of t plan arrangements step) image

pub image_direct : ForDirect → (o : FrameJobs) (t : ProgramTree) (p : ProgramCode) (gs : List FunctionItems) → o.step ≤ 8 → p ≡ lowered_program t → ∥ IsProgram t ∥₁ → ProgramHasWords t → AreArranged p.functions (layouts o) → IsEmittable p gs → gs ≡ selected p
    → (image : Contents) → HasImage o t image → ∥ IsDirect o t image ∥₁
image_direct law = image_holds AreDirect (λ t plan arrangements step image is words arranged planned emittable low linked fit short.
    law t plan arrangements step (called_by (emission_of t plan arrangements step)) image is words arranged planned emittable low linked fit short)

-- where its jumps and calls lead, by places at which the image is linked
abbrev ForTargets : Type 0
ForTargets = (t : ProgramTree) (plan : DataPlan) (arrangements : List (List (List ℕ))) (step : ℕ) (routines : List Piece) (image : Contents) → IsProgram t → ProgramHasWords t → AreArranged (lowered_program t).functions arrangements → IsPlan (lowered_program t) arrangements plan
    → IsEmittable (lowered_program t) (selected (lowered_program t)) → step < 256 → AnswersCalls (emission_own (emission_of t plan arrangements step)) routines → (linked : Linked (emission_pieces (emission_of t plan arrangements step) routines) image)
    → PiecesFit (emission_pieces (emission_of t plan arrangements step) routines) → length image.words ≤ 65536 → AllHaveTargets (emission_of t plan arrangements step) routines linked.place image

abbrev Leads : Emission → Contents → Type 0
Leads e image = (linked : Linked (emission_pieces e (called_by e)) image) × AllHaveTargets e (called_by e) linked.place image

pub image_leads : ForTargets → (o : FrameJobs) (t : ProgramTree) (p : ProgramCode) (gs : List FunctionItems) → o.step ≤ 8 → p ≡ lowered_program t → ∥ IsProgram t ∥₁ → ProgramHasWords t → AreArranged p.functions (layouts o) → IsEmittable p gs → gs ≡ selected p
    → (image : Contents) → HasImage o t image → ∥ LeadsRight o t image ∥₁
image_leads law = image_holds Leads (λ t plan arrangements step image is words arranged planned emittable low linked fit short.
    let own = emission_own (emission_of t plan arrangements step) in
    (linked, law t plan arrangements step (called_helper_pieces own) image is words arranged planned emittable low (called_answer own) linked fit short))

-- how words of scalars are accessed
abbrev ForListing : Type 0
ForListing = (t : ProgramTree) (plan : DataPlan) (arrangements : List (List (List ℕ))) (step : ℕ) (routines : List Piece) (image : Contents) → IsProgram t → ProgramHasWords t → AreArranged (lowered_program t).functions arrangements → IsPlan (lowered_program t) arrangements plan
    → IsEmittable (lowered_program t) (selected (lowered_program t)) → step < 256 → Linked (emission_pieces (emission_of t plan arrangements step) routines) image → PiecesFit (emission_pieces (emission_of t plan arrangements step) routines) → length image.words ≤ 65536
    → AllListFrames (emission_of t plan arrangements step) image

pub image_lists : ForListing → (o : FrameJobs) (t : ProgramTree) (p : ProgramCode) (gs : List FunctionItems) → o.step ≤ 8 → p ≡ lowered_program t → ∥ IsProgram t ∥₁ → ProgramHasWords t → AreArranged p.functions (layouts o) → IsEmittable p gs → gs ≡ selected p
    → (image : Contents) → HasImage o t image → ∥ ListsFrames o t image ∥₁
image_lists law = image_holds AllListFrames (λ t plan arrangements step image is words arranged planned emittable low linked fit short.
    law t plan arrangements step (called_by (emission_of t plan arrangements step)) image is words arranged planned emittable low linked fit short)
