-- A typed program has one plan, so it has one image at most, or finds no room for one reason.
use Rattle.std.proofs.Common.{◌≡◌, ◌<◌, ◌≤◌, ◌∙◌, ℕ, List, sym, ap, subst, arith}
use mathlib.Core.Path.{fun_ext}
use Rattle.c_tree.specs.TypedTree.{ProgramTree}
use Rattle.tree_code.specs.WordTree.{ProgramCode}
use Rattle.tree_code.specs.Lowered.{lowered_program}
use Rattle.frame_layouts.specs.mem_plan.declared.data_plan.DataPlan.{DataPlan}
use Rattle.frame_layouts.specs.mem_plan.declared.data_plan.PlanFault.{PlanFault}
use Rattle.frame_layouts.specs.mem_plan.declared.data_plan.PlanFault.TheVariants as plan_faults
use Rattle.frame_layouts.specs.mem_plan.Plan.{AreBegins, plan_of, data_need}
use Rattle.frame_layouts.proofs.mem_plan.UniqueLemmas.{one_begin}
use Rattle.c25_isa.specs.Image.{Contents}
use Rattle.c25_link.specs.Linking.{linked_image, pieces_words}
use Rattle.c25_link.specs.declared.fault.LinkFault.{LinkFault}
use Rattle.c25_link.specs.declared.fault.LinkFault.TheVariants as link_faults
use Rattle.frame_layouts.specs.lay_cert.Frames.{Frame}
use Rattle.frame_layouts.specs.Frames.{frames_of}
use Rattle.image_proof.specs.acc_select.Selected.{selected}
use Rattle.cc_compile.specs.Images.{FrameJobs, HasFrames, HasImage, HasTooMuchData, HasTooMuchCode, HasPlanFault, HasLinkFault, IsPlanOf, all_pieces, layouts}

pub same_begins : (p : ProgramCode) (b c : ℕ → ℕ) → AreBegins p b → AreBegins p c → b ≡ c
same_begins p b c are also = fun_ext (λ f. one_begin p b c are also f)

pub one_plan : (o : FrameJobs) (t : ProgramTree) (a b : DataPlan) → IsPlanOf o t a → IsPlanOf o t b → a ≡ b
one_plan o t a b is also =
    is.is ∙ ap (plan_of (lowered_program t) (layouts o)) (same_begins (lowered_program t) is.begin also.begin is.begins also.begins) ∙ sym also.is

not_both_sides : (n m : ℕ) → n ≡ m → n ≤ 65536 → 65536 < m → ⊥
not_both_sides n m e low high = omega (arith, low, high, e)

pub one : (o : FrameJobs) (t : ProgramTree) (a b : Contents) → HasImage o t a → HasImage o t b → a ≡ b
one o t a b h k = h.is ∙ ap (λ plan. linked_image (all_pieces o (lowered_program t) plan)) (one_plan o t h.plan k.plan h.planned k.planned) ∙ sym k.is

pub frames_same : (o : FrameJobs) (t : ProgramTree) (a b : List Frame) → HasFrames o t a → HasFrames o t b → a ≡ b
frames_same o t a b h k = h.are ∙ ap (λ (plan : DataPlan). frames_of (selected (lowered_program t)) o.jobs plan.frames) (one_plan o t h.plan k.plan h.planned k.planned) ∙ sym k.are

-- a plan has room
pub planned_not_large : (o : FrameJobs) (t : ProgramTree) (plan : DataPlan) (n : ℕ) → IsPlanOf o t plan → HasTooMuchData t n → ⊥
planned_not_large o t plan n is large =
    let p = lowered_program t in
    let used : plan.used ≡ data_need p is.begin = ap (λ (x : DataPlan). x.used) is.is in
    let need : data_need p is.begin ≡ data_need p large.begin = ap (data_need p) (same_begins p is.begin large.begin is.begins large.begins) in
    omega (arith, is.fits, large.over, large.is, used, need)

pub no_data : (o : FrameJobs) (t : ProgramTree) (a : Contents) (n : ℕ) → HasImage o t a → HasTooMuchData t n → ⊥
no_data o t a n h large = planned_not_large o t h.plan n h.planned large

same_words : (o : FrameJobs) (t : ProgramTree) (a b : DataPlan) → IsPlanOf o t a → IsPlanOf o t b → pieces_words (all_pieces o (lowered_program t) a) ≡ pieces_words (all_pieces o (lowered_program t) b)
same_words o t a b is also = ap (λ plan. pieces_words (all_pieces o (lowered_program t) plan)) (one_plan o t a b is also)

pub no_code : (o : FrameJobs) (t : ProgramTree) (a : Contents) (n : ℕ) → HasImage o t a → HasTooMuchCode o t n → ⊥
no_code o t a n h k = not_both_sides _ _ (same_words o t h.plan k.plan h.planned k.planned) h.fits (subst (λ m. 65536 < m) k.is k.over)

pub data_one : (t : ProgramTree) (n m : ℕ) → HasTooMuchData t n → HasTooMuchData t m → n ≡ m
data_one t n m h k =
    h.is ∙ ap (data_need (lowered_program t)) (same_begins (lowered_program t) h.begin k.begin h.begins k.begins) ∙ sym k.is

pub code_one : (o : FrameJobs) (t : ProgramTree) (n m : ℕ) → HasTooMuchCode o t n → HasTooMuchCode o t m → n ≡ m
code_one o t n m h k = h.is ∙ same_words o t h.plan k.plan h.planned k.planned ∙ sym k.is

pub data_or_code : (o : FrameJobs) (t : ProgramTree) (n m : ℕ) → HasTooMuchData t n → HasTooMuchCode o t m → ⊥
data_or_code o t n m large k = planned_not_large o t k.plan n k.planned large

-- the same of faults
pub one_plan_fault : (t : ProgramTree) (a b : PlanFault) → HasPlanFault t a → HasPlanFault t b → a ≡ b
one_plan_fault t (plan_faults.DataFull n) (plan_faults.DataFull m) h k = ap plan_faults.DataFull (data_one t n m h k)
one_plan_fault t (plan_faults.DataFull n) plan_faults.NoMemory h k = absurd k
one_plan_fault t plan_faults.NoMemory b h k = absurd h

pub one_link_fault : (o : FrameJobs) (t : ProgramTree) (a b : LinkFault) → HasLinkFault o t a → HasLinkFault o t b → a ≡ b
one_link_fault o t (link_faults.CodeFull n) (link_faults.CodeFull m) h k = ap link_faults.CodeFull (code_one o t n m h k)
one_link_fault o t (link_faults.CodeFull n) link_faults.NoMemory h k = absurd k
one_link_fault o t link_faults.NoMemory b h k = absurd h

pub plan_or_link : (o : FrameJobs) (t : ProgramTree) (a : PlanFault) (b : LinkFault) → HasPlanFault t a → HasLinkFault o t b → ⊥
plan_or_link o t (plan_faults.DataFull n) (link_faults.CodeFull m) h k = data_or_code o t n m h k
plan_or_link o t (plan_faults.DataFull n) link_faults.NoMemory h k = k
plan_or_link o t plan_faults.NoMemory b h k = h

pub image_no_plan_fault : (o : FrameJobs) (t : ProgramTree) (a : Contents) (b : PlanFault) → HasImage o t a → HasPlanFault t b → ⊥
image_no_plan_fault o t a (plan_faults.DataFull n) h k = no_data o t a n h k
image_no_plan_fault o t a plan_faults.NoMemory h k = k

pub image_no_link_fault : (o : FrameJobs) (t : ProgramTree) (a : Contents) (b : LinkFault) → HasImage o t a → HasLinkFault o t b → ⊥
image_no_link_fault o t a (link_faults.CodeFull n) h k = no_code o t a n h k
image_no_link_fault o t a link_faults.NoMemory h k = k
