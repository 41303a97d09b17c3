-- The frame of a function in the plan, and its return word.
use Rattle.std.proofs.Common.{◌≡◌, ◌<◌, ℕ, zero, suc, ◌+◌, ◌||◌, Bool, true, false, List, [], ◌∷◌, length, Some, refl, sym, ap, ◌∙◌, subst, inl, arith}
use Rattle.std.specs.Prelude.{slice_get, if◌then◌else◌, None}
use Rattle.std.proofs.lemmas.Option.{same_Some, slice_get_within}
use Rattle.tree_code.specs.WordHelpers.{uses_helper}
use Rattle.tree_code.specs.WordTree.{FunctionCode}
use Rattle.tree_code.specs.WellFormedCode.{code_calls}
use Rattle.mem_plan.specs.declared.data_plan.FramePlan.{FramePlan}
use Rattle.mem_plan.specs.DataNeeds.{callees, has_any, has_return_word, objects_words}
use Rattle.mem_plan.specs.Plan.{frame_of, frames_from, frames_start}
use Rattle.image_proof.specs.Emissions.{Emission, IsEmission}
use Rattle.image_proof.specs.Active.{AreActive, back_in, back_of}
use Rattle.image_proof.proofs.Lists.{mapped_there, contained_any}
use Rattle.image_proof.proofs.Ways.{active_there}

-- a function with its lists and its frame
pub record FramedAt (functions : List FunctionCode) (arrangements : List (List (List ℕ))) (frames : List FramePlan) (f : ℕ) : Type 0 where
  pub code : FunctionCode
  pub lists : List (List ℕ)
  pub start : ℕ
  pub there : slice_get functions f ≡ Some code
  pub arranged : slice_get arrangements f ≡ Some lists
  pub framed : slice_get frames f ≡ Some (frame_of code lists start)

abbrev pub FrameAt : Emission → ℕ → Type 0
FrameAt e f = FramedAt e.code.functions e.arrangements e.plan.frames f

pub framed_at : (start : ℕ) (begin : ℕ → ℕ) (n : ℕ) (functions : List FunctionCode) (arrangements : List (List (List ℕ))) → length arrangements ≡ length functions → (f : ℕ) → f < length functions
    → FramedAt functions arrangements (frames_from start begin n functions arrangements) f
framed_at start begin n [] arrangements count f less = absurd (omega (arith, less))
framed_at start begin n (g ∷ gs) [] count f less = absurd (omega (arith, count))
framed_at start begin n (g ∷ gs) (lists ∷ rest) count zero less = record { code = g; lists = lists; start = start + begin n; there = refl; arranged = refl; framed = refl }
framed_at start begin n (g ∷ gs) (lists ∷ rest) count (suc f) less =
    let h = framed_at start begin (suc n) gs rest (omega (arith, count)) f (omega (arith, less)) in
    record { code = h.code; lists = h.lists; start = h.start; there = h.there; arranged = h.arranged; framed = h.framed }

-- a function that is called has a return word, and one that uses a routine
back_there : (b : Bool) (x : ℕ) → b ≡ true → (a : ℕ) × ((if b then Some x else None) ≡ Some a)
back_there true x e = (x, refl)
back_there false x e = absurd cc

or_first : (a b : Bool) → a ≡ true → (a || b) ≡ true
or_first a b e = ap (λ c. c || b) e

or_second : (a b : Bool) → b ≡ true → (a || b) ≡ true
or_second true b e = refl
or_second false b e = e

module _ (e : Emission) (is : IsEmission e) where
  pub frame_at : (f : ℕ) → f < length e.code.functions → FrameAt e f
  frame_at f less = subst (λ plan. FramedAt e.code.functions e.arrangements plan.frames f) (sym is.planned.is)
      (framed_at (frames_start e.code) is.planned.begin 0 e.code.functions e.arrangements is.arranged.count f less)

  -- the functions that it calls are those of its body
  pub calls_listed : (f : ℕ) (h : FrameAt e f) → slice_get (code_calls e.code.functions) f ≡ Some (callees h.code)
  calls_listed f h = mapped_there callees e.code.functions f h.code h.there

  pub back_is : (f : ℕ) (h : FrameAt e f) → back_of e f ≡ (if has_return_word h.code then Some (h.start + (h.code.scalars + objects_words h.code.locals)) else None)
  back_is f h = ap back_in h.framed

  has_back : (f : ℕ) (h : FrameAt e f) → has_return_word h.code ≡ true → (a : ℕ) × (back_of e f ≡ Some a)
  has_back f h has =
      let there = back_there (has_return_word h.code) (h.start + (h.code.scalars + objects_words h.code.locals)) has in
      (there.0, back_is f h ∙ there.1)

  pub caller_back : (g f : ℕ) (active : List ℕ) → AreActive e (g ∷ f ∷ active) → (a : ℕ) × (back_of e f ≡ Some a)
  caller_back g f active are =
      let h = frame_at f (active_there e is (f ∷ active) are.1 f (inl refl)) in
      let list = same_Some (are.0).0 (callees h.code) (sym (are.0).1 ∙ calls_listed f h) in
      has_back f h (or_first (has_any (callees h.code)) (uses_helper h.code.body) (ap has_any (sym list) ∙ contained_any g (are.0).0 (are.0).2))

  pub helped_back : (f : ℕ) (code : FunctionCode) → slice_get e.code.functions f ≡ Some code → uses_helper code.body ≡ true → (a : ℕ) × (back_of e f ≡ Some a)
  helped_back f code there helps =
      let h = frame_at f (slice_get_within e.code.functions f code there) in
      has_back f h (or_second (has_any (callees h.code)) (uses_helper h.code.body) (ap (λ (c : FunctionCode). uses_helper c.body) (same_Some h.code code (sym h.there ∙ there)) ∙ helps))
