-- Words that can be in use at once are apart, by a plan of the program that has the lists of the frames.
use Rattle.std.proofs.Common.{◌≡◌, ◌<◌, ◌≤◌, ◌∙◌, ◌⊎◌, inl, inr, ⊎_elim, ℕ, zero, suc, ◌+◌, List, [], ◌∷◌, ◌++◌, length, map, Option, Some, None, refl, sym, ap, subst, arith}
use Rattle.std.specs.Prelude.{slice_get, option_to_list}
use Rattle.std.specs.List.{Contains, slice_index_or}
use Rattle.std.proofs.lemmas.List.{length-map}
use Rattle.std.proofs.lemmas.List.Elements.{Contains-append_cases}
use Rattle.std.proofs.lemmas.Option.{same_Some}
use Rattle.c_tree.specs.Rounds.{CallsAmong, IsWay}
use Rattle.c_tree.specs.TypedTree.{FunctionTree, ObjectTree, ProgramTree}
use Rattle.tree_code.specs.Lowered.{lowered_function, lowered_program}
use Rattle.tree_code.specs.WordTree.{FunctionCode, ProgramCode}
use Rattle.acc_code.specs.AccTree.{FunctionItems}
use Rattle.image_proof.specs.acc_select.Selected.{selected, selected_function}
use Rattle.image_proof.specs.tree_code_proof.Reaching.{CanMeet}
use Rattle.image_proof.specs.FrameWords.{numbers_from, object_words}
use Rattle.image_proof.proofs.Placing.{calls_same}
use Rattle.image_proof.proofs.ScalarWords as words
use Rattle.image_proof.proofs.ScalarWords.{ScalarAt}
use Rattle.frame_layouts.specs.mem_plan.declared.data_plan.DataPlan.{DataPlan}
use Rattle.frame_layouts.specs.mem_plan.declared.data_plan.FramePlan.{FramePlan}
use Rattle.frame_layouts.specs.mem_plan.Plan.{AreArranged, IsPlan, frames_start}
use Rattle.frame_layouts.specs.mem_plan.Ranges as ranges
use Rattle.frame_layouts.proofs.mem_plan.ApartLemmas.{plans_apart}
use Rattle.frame_layouts.specs.Frames.{frames_of}
use Rattle.frame_layouts.specs.lay_cert.Frames.{Frame}
use Rattle.frame_layouts.specs.lay_par.Jobs.{Job}
use Rattle.cc_compile.specs.Apart.{AreListsApart, HasScalarAt, LieApart}
use Rattle.cc_compile.specs.DataWords.{place_words}
use Rattle.cc_compile.specs.Images.{FrameJobs, HasFrames, layouts}
use Rattle.cc_compile.proofs.ImageNames.{frames_count}
use Rattle.cc_compile.proofs.Promised.{frame_lists}
use Rattle.cc_compile.proofs.WalkLemmas.{map_at}

-- what is at a number of a list's images is the image of what is there
mapped_from : {A B : Type 0} (h : A → B) (xs : List A) (k : ℕ) (y : B) → slice_get (map h xs) k ≡ Some y → (x : A) × (slice_get xs k ≡ Some x) × (h x ≡ y)
mapped_from h [] k y is = absurd cc
mapped_from h (x ∷ xs) zero y is = (x, refl, same_Some (h x) y is)
mapped_from h (x ∷ xs) (suc k) y is = mapped_from h xs k y is

-- ---- words of objects

at_number : (a x count k : ℕ) → k < length (numbers_from x count) → slice_index_or (numbers_from x count) k a ≡ a → (x ≤ a) × (a < x + count)
at_number a x zero k less is = absurd (omega (arith, less))
at_number a x (suc count) zero less is = (omega (arith, is), omega (arith, is))
at_number a x (suc count) (suc k) less is =
    let rest = at_number a (suc x) count k (omega (arith, less)) is in
    let low = rest.0 in
    let high = rest.1 in
    (omega (arith, low), omega (arith, high))

-- a word of objects is one of an object among them
record ObjectWord (addresses : List ℕ) (objects : List ObjectTree) (a : ℕ) : Type 0 where
  number : ℕ
  object : ObjectTree
  first : ℕ
  addressed : slice_get addresses number ≡ Some first
  there : slice_get objects number ≡ Some object
  from : first ≤ a
  to : a < first + (object.length + 1)

in_objects : (addresses : List ℕ) (objects : List ObjectTree) (a : ℕ) → Contains (object_words addresses objects) a → ObjectWord addresses objects a
in_objects [] os a h = let less = h.1 in absurd (omega (arith, less))
in_objects (x ∷ xs) [] a h = let less = h.1 in absurd (omega (arith, less))
in_objects (x ∷ xs) (o ∷ os) a h = by (Contains-append_cases (numbers_from x o.length) (object_words xs os) a h) (in_objects xs os a)
  where
    by : Contains (numbers_from x o.length) a ⊎ Contains (object_words xs os) a → (Contains (object_words xs os) a → ObjectWord xs os a) → ObjectWord (x ∷ xs) (o ∷ os) a
    by (inl among) more =
        let here = at_number a x o.length among.0 among.1 among.2 in
        let high = here.1 in
        record { number = 0; object = o; first = x; addressed = refl; there = refl; from = here.0; to = omega (arith, high) }
    by (inr among) more =
        let rest = more among in
        record { number = suc rest.number; object = rest.object; first = rest.first; addressed = rest.addressed; there = rest.there; from = rest.from; to = rest.to }

in_option : (o : Option ℕ) (a : ℕ) → Contains (option_to_list o) a → o ≡ Some a
in_option None a h = let less = h.1 in absurd (omega (arith, less))
in_option (Some b) a h = by h.0 h.1 h.2
  where
    by : (k : ℕ) → k < 1 → slice_index_or (b ∷ []) k a ≡ a → Some b ≡ Some a
    by zero less is = ap Some is
    by (suc k) less is = absurd (omega (arith, less))

-- ---- the words of frames

module _ (t : ProgramTree) (frames : List Frame) (plan : DataPlan) (arranged : AreArranged (lowered_program t).functions (map (λ (f : Frame). f.arr) frames)) (planned : IsPlan (lowered_program t) (map (λ (f : Frame). f.arr) frames) plan)
    (bases : map (λ (f : Frame). f.bases) frames ≡ map (λ (at : FramePlan). at.bases) plan.frames)
    (scalars : map (λ (f : Frame). f.seq.scalars) frames ≡ map (λ (c : FunctionCode). c.scalars) (lowered_program t).functions) where
  abbrev p : ProgramCode
  p = lowered_program t

  abbrev lists : List (List (List ℕ))
  lists = map (λ (f : Frame). f.arr) frames

  based : (k : ℕ) (f : Frame) → slice_get frames k ≡ Some f → (at : FramePlan) → slice_get plan.frames k ≡ Some at → at.bases ≡ f.bases
  based k f there at framed =
      same_Some at.bases f.bases
      (sym (map_at (λ (at : FramePlan). at.bases) plan.frames k at framed) ∙ ap (λ bs. slice_get bs k) (sym bases) ∙ map_at (λ (f : Frame). f.bases) frames k f there)

  scalar_at : (k n a : ℕ) → HasScalarAt frames k n a → ScalarAt p lists plan arranged planned k n a
  scalar_at k n a s =
      let counts : slice_get (map (λ (c : FunctionCode). c.scalars) p.functions) k ≡ Some s.frame.seq.scalars =
      ap (λ ns. slice_get ns k) (sym scalars) ∙ map_at (λ (f : Frame). f.seq.scalars) frames k s.frame s.there in
      let code = mapped_from (λ (c : FunctionCode). c.scalars) p.functions k s.frame.seq.scalars counts in
      subst (ScalarAt p lists plan arranged planned k n) s.is
      (words.scalar_at p lists plan arranged planned k n code.0 s.frame.arr s.frame.bases code.1 (map_at (λ (f : Frame). f.arr) frames k s.frame s.there) (based k s.frame s.there)
      (subst (λ count. n < count) (sym code.2) s.below))

  abbrev Meet : List (List ℕ) → ℕ → ℕ → Type 0
  Meet calls k h = ((ms : List ℕ) × IsWay (CallsAmong calls) k ms h) ⊎ ((ms : List ℕ) × IsWay (CallsAmong calls) h ms k)

  meeting : (k h : ℕ) → CanMeet t k h → ranges.CanMeet p (Some k) (Some h)
  meeting k h meet = subst (λ calls. Meet calls k h) (sym (calls_same t.functions)) meet

  no_place : (k h n a : ℕ) (g : FunctionTree) (at : FramePlan) → CanMeet t k h → HasScalarAt frames k n a → slice_get t.functions h ≡ Some g → slice_get plan.frames h ≡ Some at → Contains (place_words t plan g at) a → ⊥
  no_place k h n a g at meet s there framed among =
      ⊎_elim static (λ more. ⊎_elim local back (Contains-append_cases (object_words at.locals g.locals) (option_to_list at.back) a more))
      (Contains-append_cases (object_words plan.statics t.statics) (object_words at.locals g.locals ++ option_to_list at.back) a among)
    where
      static : Contains (object_words plan.statics t.statics) a → ⊥
      static among =
          let o = in_objects plan.statics t.statics a among in
          words.no_static p lists plan arranged planned k n a o.number o.first o.object (scalar_at k n a s) o.addressed o.there o.from o.to

      local : Contains (object_words at.locals g.locals) a → ⊥
      local among =
          let o = in_objects at.locals g.locals a among in
          words.no_local p lists plan arranged planned k h n a o.number o.first at (lowered_function g) o.object (meeting k h meet) (scalar_at k n a s) framed (map_at lowered_function t.functions h g there) o.addressed o.there o.from o.to

      back : Contains (option_to_list at.back) a → ⊥
      back among = words.no_return p lists plan arranged planned k h n a at (meeting k h meet) (scalar_at k n a s) framed (in_option at.back a among)

  lists_apart : AreListsApart t frames plan
  lists_apart = record {
    scalars = λ k h n m a meet s u. words.same_scalar p lists plan arranged planned k h n m a (meeting k h meet) (scalar_at k n a s) (scalar_at h m a u);
    places = no_place;
    in_ram = λ k n a s. words.behind_scratch p lists plan arranged planned k n a (scalar_at k n a s);
  }

-- ---- as they are made

frame_scalars : (gs : List FunctionItems) (jobs : List Job) (plans : List FramePlan) → length jobs ≡ length gs → length plans ≡ length gs
    → map (λ (f : Frame). f.seq.scalars) (frames_of gs jobs plans) ≡ map (λ (job : Job). job.sequence.scalars) jobs
frame_scalars [] [] plans a b = refl
frame_scalars [] (job ∷ jobs) plans a b = absurd (omega (arith, a))
frame_scalars (g ∷ gs) [] plans a b = absurd (omega (arith, a))
frame_scalars (g ∷ gs) (job ∷ jobs) [] a b = absurd (omega (arith, b))
frame_scalars (g ∷ gs) (job ∷ jobs) (plan ∷ plans) a b = ap (λ ns. job.sequence.scalars ∷ ns) (frame_scalars gs jobs plans (omega (arith, a)) (omega (arith, b)))

selected_scalars : (cs : List FunctionCode) → map (λ (g : FunctionItems). g.scalars) (map selected_function cs) ≡ map (λ (c : FunctionCode). c.scalars) cs
selected_scalars [] = refl
selected_scalars (c ∷ cs) = ap (λ ns. c.scalars ∷ ns) (selected_scalars cs)

pub lie_apart : (o : FrameJobs) (t : ProgramTree) (frames : List Frame) → AreArranged (lowered_program t).functions (layouts o) → map (λ (job : Job). job.sequence.scalars) o.jobs ≡ map (λ (g : FunctionItems). g.scalars) (selected (lowered_program t))
    → HasFrames o t frames → LieApart t frames
lie_apart o t frames arranged same framed = λ plan planned bases.
    (plans_apart (lowered_program t) (map (λ (f : Frame). f.arr) frames) plan now planned, lists_apart t frames plan now planned bases scalars)
  where
    gs : List FunctionItems
    gs = selected (lowered_program t)

    jobs_beside : length o.jobs ≡ length gs
    jobs_beside = sym (length-map o.jobs (λ (job : Job). job.sequence.scalars)) ∙ ap length same ∙ length-map gs (λ (g : FunctionItems). g.scalars)

    plans_beside : length framed.plan.frames ≡ length gs
    plans_beside =
        ap (λ (x : DataPlan). length x.frames) framed.planned.is
        ∙ frames_count (frames_start (lowered_program t)) framed.planned.begin 0 (lowered_program t).functions (layouts o) arranged.count
        ∙ sym (length-map (lowered_program t).functions selected_function)

    lists_are : map (λ (f : Frame). f.arr) frames ≡ layouts o
    lists_are = ap (map (λ (f : Frame). f.arr)) framed.are ∙ frame_lists gs o.jobs framed.plan.frames jobs_beside plans_beside

    now : AreArranged (lowered_program t).functions (map (λ (f : Frame). f.arr) frames)
    now = subst (AreArranged (lowered_program t).functions) (sym lists_are) arranged

    scalars : map (λ (f : Frame). f.seq.scalars) frames ≡ map (λ (c : FunctionCode). c.scalars) (lowered_program t).functions
    scalars =
        ap (map (λ (f : Frame). f.seq.scalars)) framed.are ∙ frame_scalars gs o.jobs framed.plan.frames jobs_beside plans_beside ∙ same
        ∙ selected_scalars (lowered_program t).functions

pub frames_apart : (o : FrameJobs) (t : ProgramTree) (p : ProgramCode) (gs : List FunctionItems) (frames : List Frame) → p ≡ lowered_program t → gs ≡ selected p → AreArranged p.functions (layouts o)
    → map (λ (job : Job). job.sequence.scalars) o.jobs ≡ map (λ (g : FunctionItems). g.scalars) gs → HasFrames o t frames → LieApart t frames
frames_apart o t p gs frames tree code arranged same framed =
    lie_apart o t frames (subst (λ (q : ProgramCode). AreArranged q.functions (layouts o)) tree arranged) (same ∙ ap (map (λ (g : FunctionItems). g.scalars)) (code ∙ ap selected tree)) framed
