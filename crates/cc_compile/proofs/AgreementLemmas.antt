-- The image of a typed program agrees with it, by the laws of images for the layouts of the program.
use Rattle.std.proofs.Common.{◌≡◌, ◌<◌, ◌≤◌, ◌∙◌, ℕ, List, length, ap, subst, arith}
use Rattle.std.specs.Prelude.{Result, Ok, Err, IfOk}
use Rattle.std.proofs.Math.Logic.{∥∥₁_map}
use Rattle.c_tree.specs.SourceRun.{source_run}
use Rattle.c_tree.specs.TypedTree.{ProgramTree}
use Rattle.c_tree.specs.WellFormedProgram.{IsProgram}
use Rattle.tree_code.specs.Lowered.{lowered_program}
use Rattle.c_tree.specs.TypedOfWords.{ProgramHasWords}
use Rattle.tree_code.specs.WordTree.{ProgramCode}
use Rattle.acc_code.specs.AccTree.{FunctionItems}
use Rattle.image_proof.specs.acc_select.IsSelected.{IsEmittable}
use Rattle.image_proof.specs.acc_select.Selected.{selected}
use Rattle.frame_layouts.specs.mem_plan.declared.data_plan.DataPlan.{DataPlan}
use Rattle.frame_layouts.specs.mem_plan.Plan.{AreArranged, IsPlan}
use Rattle.c25_isa.specs.Agrees.{Agrees}
use Rattle.c25_isa.specs.Image.{Contents}
use Rattle.c25_isa.specs.Pieces.{Piece, Linked, PiecesFit}
use Rattle.c25_link.specs.Linking.{name_addresses}
use Rattle.c25_link.proofs.Images.{pieces_length}
use Rattle.image_proof.specs.c25_helper.Answering.{AnswersCalls}
use Rattle.image_proof.specs.c25_helper.Calls.{called_helper_pieces}
use Rattle.image_proof.proofs.c25_helper.Answering.{called_answer}
use Rattle.image_proof.specs.Agreeing.{EndsInTime, emission_of}
use Rattle.image_proof.specs.Keeping.{all_pieces as emission_pieces, own_pieces as emission_own}
use Rattle.cc_compile.specs.Images.{FrameJobs, HasImage, all_pieces, layouts, own_pieces}

-- what is so anyway is so of what is made, and so is what follows from two things that are so of it
pub always_ok : {A E P : Type 0} (r : Result A E) → P → IfOk r (λ a. P)
always_ok (Ok a) h = h
always_ok (Err e) h = tt

pub ok_of_both : {A E : Type 0} {P Q R : A → Type 0} (r : Result A E) → IfOk r P → IfOk r Q → ((a : A) → P a → Q a → R a) → IfOk r R
ok_of_both (Ok a) h k f = f a h k
ok_of_both (Err e) h k f = tt

pub ok_of_three : {A E : Type 0} {P Q R S : A → Type 0} (r : Result A E) → IfOk r P → IfOk r Q → IfOk r R → ((a : A) → P a → Q a → R a → S a) → IfOk r S
ok_of_three (Ok a) h k l f = f a h k l
ok_of_three (Err e) h k l f = tt

-- the laws of images for the layouts of a program
abbrev ForImage : (ProgramTree → DataPlan → List ℕ → Type 0) → Type 0
ForImage So = (t : ProgramTree) (plan : DataPlan) (arrangements : List (List (List ℕ))) (step : ℕ) (routines : List Piece) (image : Contents) → IsProgram t → ProgramHasWords t → AreArranged (lowered_program t).functions arrangements → IsPlan (lowered_program t) arrangements plan
    → IsEmittable (lowered_program t) (selected (lowered_program t)) → step < 256 → AnswersCalls (emission_own (emission_of t plan arrangements step)) routines
    → Linked (emission_pieces (emission_of t plan arrangements step) routines) image → PiecesFit (emission_pieces (emission_of t plan arrangements step) routines) → length image.words ≤ 65536
    → So t plan image.words

-- an image takes as many words as its pieces, so it is short
pub image_short : (o : FrameJobs) (t : ProgramTree) (image : Contents) → HasImage o t image → length image.words ≤ 65536
image_short o t image h =
    let pieces = all_pieces o (lowered_program t) h.plan in
    let long = ap (λ (i : Contents). length i.words) h.is ∙ pieces_length (name_addresses pieces) 0 pieces in
    let fits = h.fits in
    omega (arith, long, fits)

for_image : (So : ProgramTree → DataPlan → List ℕ → Type 0) → ForImage So → (o : FrameJobs) (t : ProgramTree) (p : ProgramCode) (gs : List FunctionItems) → o.step ≤ 8 → p ≡ lowered_program t → IsProgram t → ProgramHasWords t → AreArranged p.functions (layouts o) → IsEmittable p gs → gs ≡ selected p
    → (image : Contents) (h : HasImage o t image) → So t h.plan image.words
for_image So law o t p gs options same is words arranged emittable chosen image h =
    let own = own_pieces o (lowered_program t) h.plan in
    law t h.plan (layouts o) o.step (called_helper_pieces own) image is words (subst (λ p. AreArranged p.functions (layouts o)) same arranged) h.planned
    (subst (λ p. IsEmittable p (selected p)) same (subst (IsEmittable p) chosen emittable)) (omega (arith, options)) (called_answer own) h.linked h.ranges (image_short o t image h)

pub image_agrees : ForImage (λ t plan words. Agrees (source_run t) words) → (o : FrameJobs) (t : ProgramTree) (p : ProgramCode) (gs : List FunctionItems) → o.step ≤ 8 → p ≡ lowered_program t → ∥ IsProgram t ∥₁ → ProgramHasWords t → AreArranged p.functions (layouts o) → IsEmittable p gs → gs ≡ selected p
    → (image : Contents) → HasImage o t image → ∥ Agrees (source_run t) image.words ∥₁
image_agrees law o t p gs options same known words arranged emittable chosen image h =
    ∥∥₁_map known (λ is. for_image (λ t plan words. Agrees (source_run t) words) law o t p gs options same is words arranged emittable chosen image h)

pub image_in_time : ForImage (λ t plan words. EndsInTime t words) → (o : FrameJobs) (t : ProgramTree) (p : ProgramCode) (gs : List FunctionItems) → o.step ≤ 8 → p ≡ lowered_program t → ∥ IsProgram t ∥₁ → ProgramHasWords t → AreArranged p.functions (layouts o) → IsEmittable p gs → gs ≡ selected p
    → (image : Contents) → HasImage o t image → ∥ EndsInTime t image.words ∥₁
image_in_time law o t p gs options same known words arranged emittable chosen image h =
    ∥∥₁_map known (λ is. for_image (λ t plan words. EndsInTime t words) law o t p gs options same is words arranged emittable chosen image h)
