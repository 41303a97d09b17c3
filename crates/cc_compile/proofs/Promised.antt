-- What is promised of an image and of frames, from how they are made: their names, the search's answers, where the data are, and direct operands.
use Rattle.std.proofs.Common.{◌≡◌, ◌+◌, ◌++◌, ◌∙◌, ℕ, suc, Bool, true, false, List, [], ◌∷◌, length, map, refl, sym, ap, ap₂, subst, arith, All}
use Rattle.std.specs.Prelude.{◌==◌, ◌||◌, if◌then◌else◌, slice_get, Option, Some, None, option_map}
use Rattle.std.proofs.Math.Logic.{∥∥₁_map}
use Rattle.std.proofs.lemmas.Bool.{false≢true}
use Rattle.std.proofs.lemmas.Bool.Decides.{Decides-eqb}
use Rattle.std.proofs.lemmas.List.{length-map}
use Rattle.std.proofs.lemmas.List.Elements.{All-cons, All-nil}
use Rattle.std.proofs.lemmas.Option.{slice_get-map}
use Rattle.c25_isa.specs.Direct.{Direct, is_among}
use Rattle.c25_isa.specs.Image.{Contents}
use Rattle.tree_code.specs.WordTree.{ProgramCode}
use Rattle.tree_code.specs.Lowered.{lowered_function, lowered_program}
use Rattle.tree_code.specs.WellFormedCode.{parameter_count}
use Rattle.tree_code.proofs.KeptLemmas.{statement_uses_kept}
use Rattle.c_tree.specs.TypedTree.{FunctionTree, ProgramTree}
use Rattle.c_tree.specs.Uses.{called, statement_uses}
use Rattle.acc_code.specs.AccTree.{FunctionItems}
use Rattle.lay_model.specs.Sequences.{Sequence}
use Rattle.frame_layouts.specs.mem_plan.declared.data_plan.DataPlan.{DataPlan}
use Rattle.frame_layouts.specs.mem_plan.declared.data_plan.FramePlan.{FramePlan}
use Rattle.frame_layouts.specs.mem_plan.Plan.{IsPlan, frames_start}
use Rattle.frame_layouts.specs.Frames.{IsFound, frame_of, frames_of, job_with, layout_of}
use Rattle.frame_layouts.specs.lay_cert.Frames.{Frame}
use Rattle.frame_layouts.specs.lay_par.Jobs.{Job}
use Rattle.frame_layouts.specs.declared.options.Options.{Options}
use Rattle.image_proof.specs.acc_select.IsSelected.{is_listed}
use Rattle.image_proof.specs.acc_select.Selected.{selected, selected_function}
use Rattle.image_proof.specs.acc_select_proof.SourceSequences.{at_step, source_sequence}
use Rattle.image_proof.specs.frame_emit.Frames.{all_parameters}
use Rattle.image_proof.specs.Agreeing.{emission_of}
use Rattle.image_proof.specs.Directs as directs
use Rattle.image_proof.specs.Directs.{AreDirect, given_of}
use Rattle.image_proof.specs.FrameWords.{numbers_from, place_of}
use Rattle.cc_compile.specs.Apart.{LieApart}
use Rattle.cc_compile.specs.Compiles.{HaveNames, IsDataOf}
use Rattle.cc_compile.specs.DataWords.{AllNameDirectly, NamesDirectly, given_from, place_words}
use Rattle.cc_compile.specs.Images.{FrameJobs, HasFrames, HasImage, IsDirect, IsPlanOf, layouts, source_jobs}
use Rattle.cc_compile.proofs.ImageNames.{frames_count, image_names, program_names}
use Rattle.cc_compile.proofs.WalkLemmas.{frame_at}

-- ---- frames of functions, jobs and plans side by side

frame_names : (gs : List FunctionItems) (jobs : List Job) (plans : List FramePlan) → length jobs ≡ length gs → length plans ≡ length gs
    → map (λ (f : Frame). f.name) (frames_of gs jobs plans) ≡ map (λ (g : FunctionItems). g.name) gs
frame_names [] jobs plans a b = refl
frame_names (g ∷ gs) [] plans a b = absurd (omega (arith, a))
frame_names (g ∷ gs) (job ∷ jobs) [] a b = absurd (omega (arith, b))
frame_names (g ∷ gs) (job ∷ jobs) (plan ∷ plans) a b = ap (λ ns. g.name ∷ ns) (frame_names gs jobs plans (omega (arith, a)) (omega (arith, b)))

pub frame_lists : (gs : List FunctionItems) (jobs : List Job) (plans : List FramePlan) → length jobs ≡ length gs → length plans ≡ length gs
    → map (λ (f : Frame). f.arr) (frames_of gs jobs plans) ≡ map layout_of jobs
frame_lists [] [] plans a b = refl
frame_lists [] (job ∷ jobs) plans a b = absurd (omega (arith, a))
frame_lists (g ∷ gs) [] plans a b = absurd (omega (arith, a))
frame_lists (g ∷ gs) (job ∷ jobs) [] a b = absurd (omega (arith, b))
frame_lists (g ∷ gs) (job ∷ jobs) (plan ∷ plans) a b = ap (λ ls. layout_of job ∷ ls) (frame_lists gs jobs plans (omega (arith, a)) (omega (arith, b)))

frame_bases : (gs : List FunctionItems) (jobs : List Job) (plans : List FramePlan) → length jobs ≡ length gs → length plans ≡ length gs
    → map (λ (f : Frame). f.bases) (frames_of gs jobs plans) ≡ map (λ (at : FramePlan). at.bases) plans
frame_bases [] jobs [] a b = refl
frame_bases [] jobs (plan ∷ plans) a b = absurd (omega (arith, b))
frame_bases (g ∷ gs) [] plans a b = absurd (omega (arith, a))
frame_bases (g ∷ gs) (job ∷ jobs) [] a b = absurd (omega (arith, b))
frame_bases (g ∷ gs) (job ∷ jobs) (plan ∷ plans) a b = ap (λ bs. plan.bases ∷ bs) (frame_bases gs jobs plans (omega (arith, a)) (omega (arith, b)))

-- a frame by a search as is chosen is what that answers
all_found : (o : Options) (gs : List FunctionItems) (seqs : List Sequence) (plans : List FramePlan) → All (IsFound o) (frames_of gs (map (job_with o) seqs) plans)
all_found o [] seqs plans = All-nil (IsFound o)
all_found o (g ∷ gs) [] plans = All-nil (IsFound o)
all_found o (g ∷ gs) (s ∷ seqs) [] = All-nil (IsFound o)
all_found o (g ∷ gs) (s ∷ seqs) (plan ∷ plans) =
    All-cons (IsFound o) (frame_of g (job_with o s) plan.bases) (frames_of gs (map (job_with o) seqs) plans)
    (record { registers = refl; layout = refl; cost = refl; claim = refl; log = refl }) (all_found o gs seqs plans)

-- ---- parameters of functions that are called

same_number : (n m : ℕ) → (n == m) ≡ (m == n)
same_number n m = by (n == m) (m == n) refl refl
  where
    by : (a b : Bool) → (n == m) ≡ a → (m == n) ≡ b → a ≡ b
    by true true e f = refl
    by true false e f = absurd (false≢true (sym f ∙ (Decides-eqb m n).1 (sym ((Decides-eqb n m).0 e))))
    by false true e f = absurd (false≢true (sym e ∙ (Decides-eqb n m).1 (sym ((Decides-eqb m n).0 f))))
    by false false e f = refl

listed_among : (n : ℕ) (ms : List ℕ) → is_listed n ms ≡ is_among n ms
listed_among n [] = refl
listed_among n (m ∷ ms) = ap₂ (λ (a b : Bool). a || b) (same_number n m) (listed_among n ms)

-- by what is known of the functions that are called
given_where : (b c : Bool) (found : Option ℕ) (count : ℕ) (words : List ℕ) → b ≡ c → found ≡ Some count → given_of (if b then found else None) words ≡ (if c then words else [])
given_where true true found count words same is = ap (λ x. given_of x words) is
given_where true false found count words same is = absurd cc
given_where false true found count words same is = absurd cc
given_where false false found count words same is = refl

module _ (all : List FunctionTree) (us vs : List ℕ) (same : us ≡ vs) where
  abbrev counted : ℕ → Option ℕ
  counted n = if is_listed n us then parameter_count (slice_get (map lowered_function all) n) else None

  given_same : (k : ℕ) (fs : List FunctionTree) (gs : List FunctionItems) (jobs : List Job) (plans : List FramePlan) → length gs ≡ length fs → length jobs ≡ length fs → length plans ≡ length fs
      → ((i : ℕ) → slice_get all (k + i) ≡ slice_get fs i)
      → directs.given_from counted k (all_parameters (map lowered_function fs) plans (map layout_of jobs)) ≡ given_from (λ n. is_among n vs) k fs (frames_of gs jobs plans) plans
  given_same k [] gs jobs plans a b c there = refl
  given_same k (f ∷ fs) [] jobs plans a b c there = absurd (omega (arith, a))
  given_same k (f ∷ fs) (g ∷ gs) [] plans a b c there = absurd (omega (arith, b))
  given_same k (f ∷ fs) (g ∷ gs) (job ∷ jobs) [] a b c there = absurd (omega (arith, c))
  given_same k (f ∷ fs) (g ∷ gs) (job ∷ jobs) (plan ∷ plans) a b c there =
      ap₂ (λ (xs ys : List ℕ). xs ++ ys)
      (given_where (is_listed k us) (is_among k vs) (parameter_count (slice_get (map lowered_function all) k)) (length f.params) _ (listed_among k us ∙ ap (is_among k) same)
      (ap parameter_count (slice_get-map lowered_function all k ∙ ap (option_map lowered_function) (ap (slice_get all) (plus_zero k) ∙ there 0))))
      (given_same (suc k) fs gs jobs plans (omega (arith, a)) (omega (arith, b)) (omega (arith, c)) (λ i. ap (slice_get all) (plus_suc k i) ∙ there (suc i)))
    where
      plus_zero : (n : ℕ) → n ≡ n + 0
      plus_zero n = omega arith

      plus_suc : (n i : ℕ) → suc n + i ≡ n + suc i
      plus_suc n i = omega arith

-- ---- a program with its frames

module _ (o : FrameJobs) (t : ProgramTree) (each : length o.jobs ≡ length t.functions) where
  abbrev p : ProgramCode
  p = lowered_program t

  codes_count : length p.functions ≡ length t.functions
  codes_count = length-map t.functions lowered_function

  items_count : length (selected p) ≡ length t.functions
  items_count = length-map p.functions selected_function ∙ codes_count

  module _ (plan : DataPlan) (planned : IsPlanOf o t plan) where
    plans_count : length plan.frames ≡ length t.functions
    plans_count =
        ap (λ (x : DataPlan). length x.frames) planned.is
        ∙ frames_count (frames_start p) planned.begin 0 p.functions (layouts o) (length-map o.jobs layout_of ∙ each ∙ sym codes_count)
        ∙ codes_count

    jobs_beside : length o.jobs ≡ length (selected p)
    jobs_beside = each ∙ sym items_count

    plans_beside : length plan.frames ≡ length (selected p)
    plans_beside = plans_count ∙ sym items_count

    pub data_of : (frames : List Frame) → frames ≡ frames_of (selected p) o.jobs plan.frames → LieApart t frames → IsDataOf t frames plan
    data_of frames are apart =
        let planned_so = subst (λ (ls : List (List (List ℕ))). IsPlan p ls plan) (sym (ap (map (λ (f : Frame). f.arr)) are ∙ frame_lists (selected p) o.jobs plan.frames jobs_beside plans_beside)) planned in
        let bases_so = ap (map (λ (f : Frame). f.bases)) are ∙ frame_bases (selected p) o.jobs plan.frames jobs_beside plans_beside in
        let both = apart plan planned_so bases_so in
        record { planned = planned_so; bases = bases_so; apart = both.0; lists = both.1 }

    pub names_in : (image : Contents) (frames : List Frame) → frames ≡ frames_of (selected p) o.jobs plan.frames → HasImage o t image → HaveNames t image frames
    names_in image frames are h = record {
      ranges = image_names o t image each h;
      framed = ap (map (λ (f : Frame). f.name)) are ∙ frame_names (selected p) o.jobs plan.frames jobs_beside plans_beside ∙ program_names t.functions;
    }

    -- the words that each function names
    module _ (scalars : map (λ (job : Job). job.sequence.scalars) o.jobs ≡ map (λ (g : FunctionItems). g.scalars) (selected p)) (image : Contents) (frames : List Frame) (are : frames ≡ frames_of (selected p) o.jobs plan.frames) where
      none_more : (i : ℕ) → 0 + i ≡ i
      none_more i = omega arith

      given : (g : FunctionTree) → directs.given_words (emission_of t plan (layouts o) o.step) (lowered_function g) ≡ given_from (λ n. is_among n (called (statement_uses g.body))) 0 t.functions frames plan.frames
      given g =
          given_same t.functions _ (called (statement_uses g.body)) (ap called (statement_uses_kept g.body)) 0 t.functions (selected p) o.jobs plan.frames items_count each plans_count (λ i. ap (slice_get t.functions) (none_more i))
          ∙ ap (λ fs. given_from (λ n. is_among n (called (statement_uses g.body))) 0 t.functions fs plan.frames) (sym are)

      same_some : {A : Type 0} (a b : A) → Some a ≡ Some b → a ≡ b
      same_some a b e = cc

      scalars_at : (k : ℕ) (g : FunctionTree) (x : FunctionItems) (job : Job) → slice_get t.functions k ≡ Some g → slice_get (selected p) k ≡ Some x → slice_get o.jobs k ≡ Some job → (lowered_function g).scalars ≡ job.sequence.scalars
      scalars_at k g x job g_at x_at job_at =
          let code : slice_get p.functions k ≡ Some (lowered_function g) = slice_get-map lowered_function t.functions k ∙ ap (option_map lowered_function) g_at in
          let item : selected_function (lowered_function g) ≡ x = same_some _ _ (sym (slice_get-map selected_function p.functions k ∙ ap (option_map selected_function) code) ∙ x_at) in
          same_some _ _
          (ap (λ (y : FunctionItems). Some y.scalars) item
          ∙ sym (slice_get-map (λ (y : FunctionItems). y.scalars) (selected p) k ∙ ap (option_map (λ (y : FunctionItems). y.scalars)) x_at)
          ∙ ap (λ ns. slice_get ns k) (sym scalars)
          ∙ slice_get-map (λ (j : Job). j.sequence.scalars) o.jobs k
          ∙ ap (option_map (λ (j : Job). j.sequence.scalars)) job_at)

      abbrev given_to : FunctionTree → List ℕ
      given_to g = given_from (λ n. is_among n (called (statement_uses g.body))) 0 t.functions frames plan.frames

      abbrev names_these : FunctionTree → FramePlan → ℕ → ℕ → List ℕ → List ℕ → Type 0
      names_these g at first last own words = Direct image.words first last own (place_words t plan g at) words

      pub all_direct : AreDirect (emission_of t plan (layouts o) o.step) image → AllNameDirectly t plan image frames
      all_direct direct k g f at g_at f_at plan_at =
          let x = frame_at (selected p) o.jobs plan.frames k f (ap (λ fs. slice_get fs k) (sym are) ∙ f_at) in
          let here : x.plan ≡ at = same_some _ _ (sym x.plan_at ∙ plan_at) in
          let found : frame_of x.g x.job at.bases ≡ f = ap (λ (y : FramePlan). frame_of x.g x.job y.bases) (sym here) ∙ x.is in
          let h = direct k (lowered_function g) x.g at (layout_of x.job)
          (record {
            code_at = slice_get-map lowered_function t.functions k ∙ ap (option_map lowered_function) g_at;
            items_at = x.g_at;
            frame_at = plan_at;
            lists_at = slice_get-map layout_of o.jobs k ∙ ap (option_map layout_of) x.job_at;
          }) in
          subst (λ (f : Frame). NamesDirectly t plan image frames k g f at) found
          (record {
            range = h.range;
            there = h.there;
            direct = subst (λ ws. names_these g at h.range.first h.range.last ws (given_to g)) (ap (λ n. map (place_of at.bases (layout_of x.job)) (numbers_from 0 n)) (scalars_at k g x.g x.job g_at x.g_at x.job_at))
                (subst (λ ws. names_these g at h.range.first h.range.last (map (place_of at.bases (layout_of x.job)) (numbers_from 0 (lowered_function g).scalars)) ws) (given g) h.direct);
          })

    -- as the source's accesses are those of its code
    pub source_scalars : (step : ℕ) (searched : List Job) → map (λ (job : Job). job.sequence.scalars) searched ≡ map (λ (s : Sequence). s.scalars) (map (source_sequence step) t.functions) → searched ≡ o.jobs
        → map (at_step step) (selected p) ≡ map (source_sequence step) t.functions → map (λ (job : Job). job.sequence.scalars) o.jobs ≡ map (λ (g : FunctionItems). g.scalars) (selected p)
    source_scalars step searched same is kept =
        ap (map (λ (job : Job). job.sequence.scalars)) (sym is) ∙ same ∙ ap (map (λ (s : Sequence). s.scalars)) (sym kept) ∙ at_steps (selected p)
      where
        at_steps : (gs : List FunctionItems) → map (λ (s : Sequence). s.scalars) (map (at_step step) gs) ≡ map (λ (g : FunctionItems). g.scalars) gs
        at_steps [] = refl
        at_steps (g ∷ gs) = ap (λ ns. g.scalars ∷ ns) (at_steps gs)

-- ---- frames as a command chooses them

module _ (o : Options) (t : ProgramTree) where
  abbrev searched : FrameJobs
  searched = source_jobs o t

  one_each : length searched.jobs ≡ length t.functions
  one_each = length-map (map (source_sequence o.step) t.functions) (job_with o) ∙ length-map t.functions (source_sequence o.step)

  jobs_scalars : (seqs : List Sequence) → map (λ (job : Job). job.sequence.scalars) (map (job_with o) seqs) ≡ map (λ (s : Sequence). s.scalars) seqs
  jobs_scalars [] = refl
  jobs_scalars (s ∷ seqs) = ap (λ ns. s.scalars ∷ ns) (jobs_scalars seqs)

  pub have_names : (image : Contents) (frames : List Frame) → HasImage searched t image → HasFrames searched t frames → HaveNames t image frames
  have_names image frames h framed = names_in searched t one_each framed.plan framed.planned image frames framed.are h

  pub are_found : (frames : List Frame) → HasFrames searched t frames → All (IsFound o) frames
  are_found frames framed =
      subst (All (IsFound o)) (sym framed.are) (all_found o (selected (lowered_program t)) (map (source_sequence o.step) t.functions) framed.plan.frames)

  pub have_data : (frames : List Frame) (framed : HasFrames searched t frames) → LieApart t frames → IsDataOf t frames framed.plan
  have_data frames framed apart = data_of searched t one_each framed.plan framed.planned frames framed.are apart

  pub are_direct : (image : Contents) (frames : List Frame) (framed : HasFrames searched t frames) → map (at_step o.step) (selected (lowered_program t)) ≡ map (source_sequence o.step) t.functions
      → ∥ IsDirect searched t image ∥₁ → ∥ AllNameDirectly t framed.plan image frames ∥₁
  are_direct image frames framed kept known =
      ∥∥₁_map known (λ direct.
      all_direct searched t one_each framed.plan framed.planned
      (source_scalars searched t one_each framed.plan framed.planned o.step searched.jobs (jobs_scalars (map (source_sequence o.step) t.functions)) refl kept) image frames framed.are (direct framed.plan framed.planned))
