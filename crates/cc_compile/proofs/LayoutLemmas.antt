-- The layouts of a program's frames as planning, emission and certificates want them.
use Rattle.std.proofs.Common.{◌≡◌, ◌<◌, ◌+◌, ◌∙◌, ℕ, zero, suc, List, [], ◌∷◌, length, map, refl, sym, ap, ap₂, subst, arith}
use Rattle.std.specs.Prelude.{All, Option, Some, None, slice_get, option_map}
use Rattle.std.proofs.lemmas.List.{get_or-map, length-map}
use Rattle.std.proofs.lemmas.List.Elements.{All-cons, All-nil}
use Rattle.std.proofs.lemmas.Option.{slice_get-map}
use Rattle.word_base.specs.Name.{IsName}
use Rattle.tree_code.specs.WordTree.{FunctionCode, ProgramCode}
use Rattle.tree_code.specs.WellFormedCode.{IsCode}
use Rattle.acc_code.specs.declared.program.AccFunction.{AccFunction}
use Rattle.acc_code.specs.AccTree.{FunctionItems}
use Rattle.acc_code.specs.AccView.{function_items_of}
use Rattle.acc_code.specs.AccSequence.{IsInFrame}
use Rattle.image_proof.specs.acc_select.IsSelected.{IsEmittable}
use Rattle.image_proof.specs.acc_select.Selected.{selected, selected_function}
use Rattle.lay_model.specs.Arrangements.{Arranges}
use Rattle.frame_layouts.specs.lay_cost.Cost as costs
use Rattle.frame_layouts.specs.mem_plan.declared.data_plan.DataPlan.{DataPlan}
use Rattle.frame_layouts.specs.mem_plan.declared.data_plan.FramePlan.{FramePlan}
use Rattle.frame_layouts.specs.mem_plan.Plan.{AreArranged, IsArranged, IsPlan, list_bases, frames_from, frames_start}
use Rattle.frame_layouts.specs.Frames.{AreBased, IsJob, layout_of}
use Rattle.frame_layouts.specs.lay_par.Jobs.{Job}
use Rattle.cc_compile.specs.Images.{AreJobs}
use Rattle.cc_compile.proofs.PieceLemmas.{known_names}

-- the elements of a list
pub some_at : {A : Type 0} (xs : List A) (k : ℕ) → k < length xs → (x : A) × (slice_get xs k ≡ Some x)
some_at [] k within = absurd (omega (arith, within))
some_at (x ∷ xs) zero within = (x, refl)
some_at (x ∷ xs) (suc k) within = some_at xs k (omega (arith, within))

pub within_of : {A : Type 0} (xs : List A) (k : ℕ) (x : A) → slice_get xs k ≡ Some x → k < length xs
within_of [] k x is = cc
within_of (y ∷ xs) zero x is = omega arith
within_of (y ∷ xs) (suc k) x is = let h = within_of xs k x is in omega (arith, h)

pub same_some : {A : Type 0} (a b : A) → Some a ≡ Some b → a ≡ b
same_some a b e = cc

pub each_of : {A : Type 0} (P : A → Type 0) (xs : List A) → ((k : ℕ) (x : A) → slice_get xs k ≡ Some x → P x) → All P xs
each_of P [] h = All-nil P
each_of P (x ∷ xs) h = All-cons P x xs (h 0 x refl) (each_of P xs (λ k y is. h (suc k) y is))

pub one_of : {A : Type 0} (P : A → Type 0) (xs : List A) (k : ℕ) (x : A) → All P xs → slice_get xs k ≡ Some x → P x
one_of P [] k x all is = cc
one_of P (y ∷ xs) zero x all is = subst P (same_some y x is) (all 0 y (omega arith))
one_of P (y ∷ xs) (suc k) x all is = one_of P xs k x (λ j d within. all (suc j) d (omega (arith, within))) is

-- each function's scalars are those of its frame
pub all_in_frames : (p : ProgramCode) (gs : List FunctionItems) → IsEmittable p gs → All IsInFrame gs
all_in_frames p gs is = each_of IsInFrame gs (λ k g there.
    let f = some_at p.functions k (subst (λ n. k < n) is.count (within_of gs k g there)) in
    (is.each k f.0 g f.1 there).frame)

-- what laws say of layouts
abbrev pub Arranging : Type 0
Arranging = (job : Job) → IsJob job → costs.IsArranged job.sequence job.registers (layout_of job)

-- jobs are as many as functions
pub one_each : (jobs : List Job) (gs : List FunctionItems) → AreJobs jobs gs → length jobs ≡ length gs
one_each jobs gs are = sym (length-map jobs (λ (job : Job). job.sequence.scalars)) ∙ ap length are.scalars ∙ length-map gs (λ (g : FunctionItems). g.scalars)

from_listed : (found : Option Job) (lists : List (List ℕ)) → option_map layout_of found ≡ Some lists → (job : Job) × (found ≡ Some job) × (layout_of job ≡ lists)
from_listed (Some job) lists is = (job, refl, same_some (layout_of job) lists is)
from_listed None lists is = cc

-- of functions and their jobs side by side, the scalars are the same
same_scalars : (jobs : List Job) (gs : List FunctionItems) (n : ℕ) (job : Job) (g : FunctionItems) → AreJobs jobs gs → slice_get jobs n ≡ Some job → slice_get gs n ≡ Some g → job.sequence.scalars ≡ g.scalars
same_scalars jobs gs n job g are there listed =
    same_some job.sequence.scalars g.scalars
    (sym (slice_get-map (λ (j : Job). j.sequence.scalars) jobs n ∙ ap (option_map (λ (j : Job). j.sequence.scalars)) there)
    ∙ ap (λ xs. slice_get xs n) are.scalars
    ∙ slice_get-map (λ (f : FunctionItems). f.scalars) gs n
    ∙ ap (option_map (λ (f : FunctionItems). f.scalars)) listed)

pub all_arranged : (jobs : List Job) (p : ProgramCode) (gs : List FunctionItems) → Arranging → IsEmittable p gs → AreJobs jobs gs → AreArranged p.functions (map layout_of jobs)
all_arranged jobs p gs arranging is are = record {
  count = length-map jobs layout_of ∙ one_each jobs gs are ∙ is.count;
  each = λ n f lists there listed.
      let found = from_listed (slice_get jobs n) lists (sym (slice_get-map layout_of jobs n) ∙ listed) in
      let job = found.0 in
      let g = some_at gs n (subst (λ m. n < m) (one_each jobs gs are) (within_of jobs n job found.1)) in
      let arranged = arranging job (one_of IsJob jobs n job are.each found.1) in
      let same = same_scalars jobs gs n job g.0 are found.1 g.1 ∙ (is.each n f g.0 there g.1).scalars in
      let few = (one_of IsJob jobs n job are.each found.1).few_registers in
      subst (IsArranged f) found.2 (record {
        arranges = subst (λ m. Arranges m (layout_of job)) same arranged.arranges;
        few = omega (arith, arranged.few, few);
      });
}

-- each plan has a base for each list
bases_count : (at : ℕ) (lists : List (List ℕ)) → length (list_bases at lists) ≡ length lists
bases_count at [] = refl
bases_count at (l ∷ ls) = ap suc (bases_count (at + length l) ls)

frames_based : (start : ℕ) (begin : ℕ → ℕ) (n : ℕ) (fs : List FunctionCode) (jobs : List Job) → length jobs ≡ length fs
    → map (λ (plan : FramePlan). length plan.bases) (frames_from start begin n fs (map layout_of jobs)) ≡ map (λ job. length (layout_of job)) jobs
frames_based start begin n [] [] same = refl
frames_based start begin n [] (job ∷ jobs) same = absurd (omega (arith, same))
frames_based start begin n (f ∷ fs) [] same = absurd (omega (arith, same))
frames_based start begin n (f ∷ fs) (job ∷ jobs) same =
    ap₂ (λ (m : ℕ) ms. m ∷ ms) (bases_count (start + begin n) (layout_of job)) (frames_based start begin (suc n) fs jobs (omega (arith, same)))

pub all_based : (jobs : List Job) (p : ProgramCode) (plan : DataPlan) → length jobs ≡ length p.functions → IsPlan p (map layout_of jobs) plan → AreBased jobs plan.frames
all_based jobs p plan same is =
    subst (λ (q : DataPlan). AreBased jobs q.frames) (sym is.is) (frames_based (frames_start p) is.begin 0 p.functions jobs same)

-- the functions have names
named : (fs : List FunctionCode) → All IsName (map (λ (f : FunctionCode). f.name) fs) → All (λ (g : FunctionItems). IsName g.name) (map selected_function fs)
named [] are = All-nil (λ (g : FunctionItems). IsName g.name)
named (f ∷ fs) are = All-cons (λ (g : FunctionItems). IsName g.name) (selected_function f) (map selected_function fs) (are 0 f.name (omega arith)) (named fs (λ k d within. are (suc k) d (omega (arith, within))))

pub all_named : (p : ProgramCode) → ∥ IsCode p ∥₁ → All (λ (g : FunctionItems). IsName g.name) (selected p)
all_named p known = named p.functions (known_names p known)

-- functions in memory
pub in_memory : (P : FunctionItems → Type 0) (fs : List AccFunction) → All P (map function_items_of fs) → All (λ (f : AccFunction). P (function_items_of f)) fs
in_memory P fs h = λ k d within. subst P (get_or-map function_items_of fs k d (function_items_of d) within) (h k (function_items_of d) (subst (λ n. k < n) (sym (length-map fs function_items_of)) within))
