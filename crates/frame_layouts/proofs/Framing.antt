-- What stands side by side is what each function has, and a frame of a function is one whose claim holds.
use Rattle.std.proofs.Common.{◌≡◌, ◌≤◌, ◌∙◌, ℕ, suc, List, [], ◌∷◌, map, length, refl, ap, ap₂, arith}
use Rattle.std.specs.Prelude.{All, Result, Ok, Err, IfOk}
use Rattle.std.proofs.lemmas.List.Elements.{All-cons, All-nil}
use Rattle.word_base.specs.Name.{IsName}
use Rattle.acc_code.specs.AccTree.{FunctionItems}
use Rattle.lay_model.specs.Sequences.{Sequence, IsSequence}
use Rattle.lay_cost.specs.Cost.{arranged_cost, IsArranged, Least}
use Rattle.lay_tree.specs.declared.answer.Mark.{Mark}
use Rattle.lay_tree.specs.declared.answer.Answer.{Answer}
use Rattle.lay_tree.specs.declared.answer.Answer.TheVariants.{Certified, Exhausted}
use Rattle.lay_tree.specs.Search.{search_answer, answer_lists, answer_cost}
use Rattle.lay_tree.specs.Replays.{Replays}
use Rattle.lay_par.specs.Jobs.{Job}
use Rattle.lay_cert.specs.declared.certificate.Claim.TheVariants.{Optimal}
use Rattle.lay_cert.specs.Frames.{Frame, IsFrame}
use Rattle.mem_plan.specs.declared.data_plan.FramePlan.{FramePlan}
use Rattle.frame_layouts.specs.declared.layouts.Finding.{Finding}
use Rattle.frame_layouts.specs.declared.layouts.Layouts.{Layouts}
use Rattle.frame_layouts.specs.Frames.{AreLayouts, AreBased, ClaimsHold, IsJob, answer_for, layout_of, finding_of, findings_of, jobs_in, claim_of, log_of, lists_with, findings_with, frame_of, frames_of, frames_with}

pub lists_found : (fs : List FunctionItems) (jobs : List Job) → length jobs ≡ length fs → lists_with fs jobs (map answer_for jobs) ≡ map layout_of jobs
lists_found [] [] same = refl
lists_found [] (job ∷ jobs) same = absurd (omega (arith, same))
lists_found (f ∷ fs) [] same = refl
lists_found (f ∷ fs) (job ∷ jobs) same = ap (λ ls. layout_of job ∷ ls) (lists_found fs jobs (omega (arith, same)))

pub findings_found : (fs : List FunctionItems) (jobs : List Job) → findings_with fs jobs (map answer_for jobs) ≡ findings_of fs jobs
findings_found [] jobs = refl
findings_found (f ∷ fs) [] = refl
findings_found (f ∷ fs) (job ∷ jobs) = ap (λ xs. finding_of f.name job (answer_for job) ∷ xs) (findings_found fs jobs)

pub laid_out : {E : Type 0} (fs : List FunctionItems) (jobs : List Job) (answers : List Answer) (r : Result Layouts E) → length jobs ≡ length fs → answers ≡ map answer_for jobs
    → IfOk r (λ l. l.arrangements.items ≡ lists_with fs jobs answers) → IfOk r (λ l. l.findings.items ≡ findings_with fs jobs answers) → IfOk r (AreLayouts fs jobs)
laid_out fs jobs answers (Ok l) same found lists findings = record {
  arrangements = lists ∙ (ap (lists_with fs jobs) found ∙ lists_found fs jobs same);
  findings = findings ∙ (ap (findings_with fs jobs) found ∙ findings_found fs jobs);
}
laid_out fs jobs answers (Err e) same found lists findings = tt

frames_found : (fs : List FunctionItems) (jobs : List Job) (plans : List FramePlan) → frames_with (findings_of fs jobs) (map layout_of jobs) plans ≡ frames_of fs jobs plans
frames_found [] jobs plans = refl
frames_found (f ∷ fs) [] plans = refl
frames_found (f ∷ fs) (job ∷ jobs) [] = refl
frames_found (f ∷ fs) (job ∷ jobs) (plan ∷ plans) = ap (λ frames. frame_of f job plan.bases ∷ frames) (frames_found fs jobs plans)

pub same_frames : (fs : List FunctionItems) (jobs : List Job) (l : Layouts) (plans : List FramePlan) → AreLayouts fs jobs l → frames_with l.findings.items l.arrangements.items plans ≡ frames_of fs jobs plans
same_frames fs jobs l plans are = ap₂ (λ xs lists. frames_with xs lists plans) are.findings are.arrangements ∙ frames_found fs jobs plans

jobs_found : (fs : List FunctionItems) (jobs : List Job) → length jobs ≡ length fs → map (λ (x : Finding). x.job) (findings_of fs jobs) ≡ jobs
jobs_found [] [] same = refl
jobs_found [] (job ∷ jobs) same = absurd (omega (arith, same))
jobs_found (f ∷ fs) [] same = refl
jobs_found (f ∷ fs) (job ∷ jobs) same = ap (λ rest. job ∷ rest) (jobs_found fs jobs (omega (arith, same)))

pub same_jobs : (fs : List FunctionItems) (jobs : List Job) (l : Layouts) → length jobs ≡ length fs → AreLayouts fs jobs l → jobs_in l ≡ jobs
same_jobs fs jobs l same are = ap (map (λ (x : Finding). x.job)) are.findings ∙ jobs_found fs jobs same

-- of the first one, and of the others
first_of : {A : Type 0} (P : A → Type 0) (x : A) (xs : List A) → All P (x ∷ xs) → P x
first_of P x xs all = all 0 x (omega arith)

others_of : {A : Type 0} (P : A → Type 0) (x : A) (xs : List A) → All P (x ∷ xs) → All P xs
others_of P x xs all = λ k d within. all (suc k) d (omega (arith, within))

-- each arrangement that a search answers is one
abbrev pub Arranging : Type 0
Arranging = (k : ℕ) (seq : Sequence) (budget : ℕ) → IsSequence seq → 1 ≤ k → IsArranged seq k (answer_lists (search_answer k seq budget))

pub layout_arranged : (job : Job) → Arranging → IsJob job → IsArranged job.sequence job.registers (layout_of job)
layout_arranged job arranging is = arranging job.registers job.sequence job.budget is.sequence is.some_registers

one_frame : (f : FunctionItems) (job : Job) (bases : List ℕ) → Arranging → IsJob job → IsName f.name → length bases ≡ length (layout_of job) → IsFrame (frame_of f job bases)
one_frame f job bases arranging is name based =
    let arranged = layout_arranged job arranging is in
    record {
      name = name;
      some = is.some_registers;
      few = is.few_registers;
      arranged = arranged.arranges;
      lists = arranged.few;
      based = based;
    }

same_first : (a b : ℕ) (xs ys : List ℕ) → (a ∷ xs) ≡ (b ∷ ys) → a ≡ b
same_first a b xs ys e = cc

same_others : (a b : ℕ) (xs ys : List ℕ) → (a ∷ xs) ≡ (b ∷ ys) → xs ≡ ys
same_others a b xs ys e = cc

pub each_frame : (fs : List FunctionItems) (jobs : List Job) (plans : List FramePlan) → Arranging → All IsJob jobs → All (λ f. IsName f.name) fs → AreBased jobs plans → All IsFrame (frames_of fs jobs plans)
each_frame [] jobs plans arranging are names based = All-nil IsFrame
each_frame (f ∷ fs) [] plans arranging are names based = All-nil IsFrame
each_frame (f ∷ fs) (job ∷ jobs) [] arranging are names based = All-nil IsFrame
each_frame (f ∷ fs) (job ∷ jobs) (plan ∷ plans) arranging are names based =
    All-cons IsFrame (frame_of f job plan.bases) (frames_of fs jobs plans)
    (one_frame f job plan.bases arranging (first_of IsJob job jobs are) (first_of (λ (f : FunctionItems). IsName f.name) f fs names) (same_first _ _ _ _ based))
    (each_frame fs jobs plans arranging (others_of IsJob job jobs are) (others_of (λ (f : FunctionItems). IsName f.name) f fs names) (same_others _ _ _ _ based))

pub all_framed : (fs : List FunctionItems) (jobs : List Job) (plans : List FramePlan) → length jobs ≡ length fs → AreBased jobs plans → map (λ (f : Frame). f.name) (frames_of fs jobs plans) ≡ map (λ (f : FunctionItems). f.name) fs
all_framed [] jobs plans same based = refl
all_framed (f ∷ fs) [] plans same based = absurd (omega (arith, same))
all_framed (f ∷ fs) (job ∷ jobs) [] same based = cc
all_framed (f ∷ fs) (job ∷ jobs) (plan ∷ plans) same based = ap (λ names. f.name ∷ names) (all_framed fs jobs plans (omega (arith, same)) (same_others _ _ _ _ based))

pub all_sequenced : (fs : List FunctionItems) (jobs : List Job) (plans : List FramePlan) → length jobs ≡ length fs → AreBased jobs plans → map (λ (f : Frame). f.seq) (frames_of fs jobs plans) ≡ map (λ (job : Job). job.sequence) jobs
all_sequenced [] [] plans same based = refl
all_sequenced [] (job ∷ jobs) plans same based = absurd (omega (arith, same))
all_sequenced (f ∷ fs) [] plans same based = absurd (omega (arith, same))
all_sequenced (f ∷ fs) (job ∷ jobs) [] same based = cc
all_sequenced (f ∷ fs) (job ∷ jobs) (plan ∷ plans) same based = ap (λ sequences. job.sequence ∷ sequences) (all_sequenced fs jobs plans (omega (arith, same)) (same_others _ _ _ _ based))

-- what is known of answers
abbrev pub Costing : Type 0
Costing = (k : ℕ) (seq : Sequence) (budget : ℕ) → answer_cost (search_answer k seq budget) ≡ arranged_cost seq (answer_lists (search_answer k seq budget))

abbrev pub Replaying : Type 0
Replaying = (k : ℕ) (seq : Sequence) (budget : ℕ) (lists : List (List ℕ)) (cost : ℕ) (log : List Mark) → IsSequence seq → search_answer k seq budget ≡ Certified lists cost log → Replays k seq cost log

abbrev pub BeingLeast : Type 0
BeingLeast = (k : ℕ) (seq : Sequence) (budget : ℕ) (lists : List (List ℕ)) (cost : ℕ) (log : List Mark) → IsSequence seq → 1 ≤ k → search_answer k seq budget ≡ Certified lists cost log → Least seq k cost

module _ (costing : Costing) (replaying : Replaying) (least : BeingLeast) where
  fits : (k : ℕ) (seq : Sequence) (budget : ℕ) (a : Answer) → IsSequence seq → search_answer k seq budget ≡ a → claim_of a ≡ Optimal → Replays k seq (answer_cost a) (log_of a)
  fits k seq budget (Certified lists cost log) is found claimed = replaying k seq budget lists cost log is found
  fits k seq budget (Exhausted lists cost piece quota log) is found claimed = cc

  is_least : (k : ℕ) (seq : Sequence) (budget : ℕ) (a : Answer) → IsSequence seq → 1 ≤ k → search_answer k seq budget ≡ a → claim_of a ≡ Optimal → Least seq k (answer_cost a)
  is_least k seq budget (Certified lists cost log) is some found claimed = least k seq budget lists cost log is some found
  is_least k seq budget (Exhausted lists cost piece quota log) is some found claimed = cc

  one_claim : (f : FunctionItems) (job : Job) (bases : List ℕ) → IsJob job → ClaimsHold (frame_of f job bases)
  one_claim f job bases is = record {
    cost = costing job.registers job.sequence job.budget;
    log = fits job.registers job.sequence job.budget (answer_for job) is.sequence refl;
    least = is_least job.registers job.sequence job.budget (answer_for job) is.sequence is.some_registers refl;
  }

  pub each_claim : (fs : List FunctionItems) (jobs : List Job) (plans : List FramePlan) → All IsJob jobs → All ClaimsHold (frames_of fs jobs plans)
  each_claim [] jobs plans are = All-nil ClaimsHold
  each_claim (f ∷ fs) [] plans are = All-nil ClaimsHold
  each_claim (f ∷ fs) (job ∷ jobs) [] are = All-nil ClaimsHold
  each_claim (f ∷ fs) (job ∷ jobs) (plan ∷ plans) are =
      All-cons ClaimsHold (frame_of f job plan.bases) (frames_of fs jobs plans) (one_claim f job plan.bases (first_of IsJob job jobs are)) (each_claim fs jobs plans (others_of IsJob job jobs are))
