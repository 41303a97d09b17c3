-- The words of a site: scalars of the function that runs, and parameters of functions that it calls.
use Rattle.std.proofs.Common.{◌≡◌, ◌≢◌, ◌<◌, ℕ, ◌+◌, Bool, true, false, List, [], ◌∷◌, length, Option, Some, None, refl, sym, ap, ◌∙◌, subst, inl, inr, ⊎_elim, arith}
use Rattle.std.specs.Prelude.{slice_get, if◌then◌else◌, AllPairs}
use Rattle.std.proofs.lemmas.Bool.{cases_lt}
use Rattle.std.proofs.lemmas.Option.{same_Some, slice_get_within, get_or_from_slice_get}
use Rattle.c_tree.specs.declared.program.VarRef.{VarRef}
use Rattle.c_tree.specs.declared.program.VarRef.TheVariants.{Scalar}
use Rattle.tree_code.specs.WordTree.{FunctionCode}
use Rattle.tree_code.specs.WellFormedCode.{parameter_count}
use Rattle.acc_select.specs.IsSelected.{is_listed, called_parameters}
use Rattle.mem_plan.specs.DataNeeds.{callees}
use Rattle.mem_plan.specs.Plan.{list_bases, frame_of}
use Rattle.emit_blocks.specs.Places.{Places, or_zero, scalar_or_zero, parameters_in}
use Rattle.frame_emit.specs.Frames as frames
use Rattle.frame_emit.specs.Frames.{scalar_place, places_in}
use Rattle.emit_proof.specs.Standing.{scalar_address, parameter_address}
use Rattle.image_proof.specs.Emissions.{Emission, IsEmission}
use Rattle.image_proof.specs.Active.{AreActive, IsAmong, behind_first}
use Rattle.image_proof.specs.ActiveSites.{parameters_of, frame_places, site_places, counts_in, site_counts}
use Rattle.image_proof.proofs.Lists.{element_there, listed_contained}
use Rattle.image_proof.proofs.Ways.{first_differs, active_there}
use Rattle.image_proof.proofs.Frames.{FrameAt, frame_at, calls_listed}
use Rattle.image_proof.proofs.Placed.{place_there, places_long}
use Rattle.image_proof.proofs.WordsOfSites.{NameWord}
use Rattle.image_proof.proofs.FrameWords.{scalar_word, scalar_parameter, parameter_word, parameter_is, parameter_at, function_is}

-- the function that runs
abbrev pub IsFirst : List ℕ → ℕ → Type 0
IsFirst [] f = ⊥
IsFirst (g ∷ gs) f = f ≡ g

pub first_among : (active : List ℕ) (f : ℕ) → IsFirst active f → IsAmong active f
first_among [] f first = absurd first
first_among (g ∷ gs) f first = inl first

pub behind_among : (active : List ℕ) (f : ℕ) → IsAmong (behind_first active) f → IsAmong active f
behind_among [] f among = absurd among
behind_among (g ∷ gs) f among = inr among

pub record ScalarIn (e : Emission) (active : List ℕ) (n : ℕ) : Type 0 where
  pub function : ℕ
  pub first : IsFirst active function
  pub word : NameWord e function (Scalar n) (scalar_address (site_places e active) n)

pub record ParameterIn (e : Emission) (active : List ℕ) (f i : ℕ) : Type 0 where
  pub name : VarRef
  pub at : FrameAt e f
  pub there : slice_get (at.code).params i ≡ Some name
  pub called : AreActive e (f ∷ active)
  pub word : NameWord e f name (parameter_address (site_places e active) f i)

-- a function that is listed has parameters
record Counted (code : Option FunctionCode) (listed : Bool) (i : ℕ) : Type 0 where
  is : listed ≡ true
  function : FunctionCode
  there : code ≡ Some function
  less : i < length function.params

counted : (code : Option FunctionCode) (listed : Bool) (i : ℕ) → i < or_zero (if listed then parameter_count code else None) → Counted code listed i
counted None true i less = absurd (omega (arith, less))
counted (Some f) true i less = record { is = refl; function = f; there = refl; less = less }
counted code false i less = absurd (omega (arith, less))

module _ (e : Emission) (is : IsEmission e) where
  pub first_behind : (active : List ℕ) → AreActive e active → (f h : ℕ) → IsFirst active f → IsAmong (behind_first active) h → h ≢ f
  first_behind [] are f h first among = absurd first
  first_behind (g ∷ gs) are f h first among = subst (λ k. h ≢ k) (sym first) (first_differs e is g gs are h among)

  pub frame_first : (g : ℕ) (fs : List ℕ) → AreActive e (g ∷ fs) → FrameAt e g
  frame_first g fs are = frame_at e is g (active_there e is (g ∷ fs) are g (inl refl))

  -- where a function has its words, by its frame
  pub places_framed : (g : ℕ) (fs : List ℕ) (h : FrameAt e g) → site_places e (g ∷ fs) ≡ places_in e.plan (parameters_of e) e.step h.code (frame_of h.code h.lists h.start) h.lists
  places_framed g fs h = λ i. frame_places e (h.there i) (h.framed i) (h.arranged i)

  pub parameters_same : (active : List ℕ) → AreActive e active → (site_places e active).parameters ≡ parameters_of e
  parameters_same [] are = refl
  parameters_same (g ∷ fs) are = ap (λ (s : Places). s.parameters) (places_framed g fs (frame_first g fs are))

  framed_scalar : (g : ℕ) (h : FrameAt e g) (s : Places) → places_in e.plan (parameters_of e) e.step h.code (frame_of h.code h.lists h.start) h.lists ≡ s → (n : ℕ) → n < length s.scalars → NameWord e g (Scalar n) (scalar_address s n)
  framed_scalar g h s same n less =
      let long : length s.scalars ≡ h.code.scalars = ap (λ (s : Places). length s.scalars) (sym same) ∙ places_long h.lists (list_bases h.start h.lists) 0 h.code.scalars in
      let few : n < h.code.scalars = omega (arith, less, long) in
      let first : n ≡ 0 + n = omega arith in
      let address : (scalar_place h.lists (list_bases h.start h.lists) 2 n).address ≡ scalar_address s n =
      ap (λ k. (scalar_place h.lists (list_bases h.start h.lists) 2 k).address) first ∙ ap (λ o. (scalar_or_zero o).address) (sym (place_there h.lists (list_bases h.start h.lists) 0 h.code.scalars n few)) ∙ ap (λ s. scalar_address s n) same in
      subst (NameWord e g (Scalar n)) address (scalar_word e is g h n few)

  pub scalar_in : (active : List ℕ) → AreActive e active → (n : ℕ) → n < length (site_places e active).scalars → ScalarIn e active n
  scalar_in [] are n less = absurd (omega (arith, less))
  scalar_in (g ∷ fs) are n less =
      let h = frame_first g fs are in
      record { function = g; first = refl; word = framed_scalar g h (site_places e (g ∷ fs)) (sym (places_framed g fs h)) n less }

  -- the word of a parameter of a function, as a caller has it
  pub parameter_at_address : (active : List ℕ) → AreActive e active → (f : ℕ) (h : FrameAt e f) (i : ℕ) (v : VarRef) → slice_get h.code.params i ≡ Some v → parameter_address (site_places e active) f i ≡ frames.parameter_address h.lists (frame_of h.code h.lists h.start) v
  parameter_at_address active are f h i v there = ap (λ ps. parameters_in (slice_get ps f) i) (parameters_same active are) ∙ parameter_is e is f h i v there

  pub parameter_named : (active : List ℕ) → AreActive e active → (f : ℕ) (h : FrameAt e f) (i : ℕ) (v : VarRef) → slice_get h.code.params i ≡ Some v → NameWord e f v (parameter_address (site_places e active) f i)
  parameter_named active are f h i v there = subst (NameWord e f v) (sym (parameter_at_address active are f h i v there)) (parameter_word e is f h v (parameter_at e is f h i v there))

  -- and as the function has it, where it is a scalar
  framed_address : (g : ℕ) (h : FrameAt e g) (s : Places) → places_in e.plan (parameters_of e) e.step h.code (frame_of h.code h.lists h.start) h.lists ≡ s → (n : ℕ) → n < h.code.scalars
      → (n < length s.scalars) × (scalar_address s n ≡ (scalar_place h.lists (list_bases h.start h.lists) 2 n).address)
  framed_address g h s same n less =
      let long : length s.scalars ≡ h.code.scalars = ap (λ (s : Places). length s.scalars) (sym same) ∙ places_long h.lists (list_bases h.start h.lists) 0 h.code.scalars in
      let first : 0 + n ≡ n = omega arith in (
        omega (arith, less, long),
        ap (λ s. scalar_address s n) (sym same) ∙ ap (λ o. (scalar_or_zero o).address) (place_there h.lists (list_bases h.start h.lists) 0 h.code.scalars n less) ∙ ap (λ k. (scalar_place h.lists (list_bases h.start h.lists) 2 k).address) first,
      )

  pub scalar_at : (g : ℕ) (fs : List ℕ) → AreActive e (g ∷ fs) → (h : FrameAt e g) (n i : ℕ) → slice_get h.code.params i ≡ Some (Scalar n)
      → (n < length (site_places e (g ∷ fs)).scalars) × (scalar_address (site_places e (g ∷ fs)) n ≡ frames.parameter_address h.lists (frame_of h.code h.lists h.start) (Scalar n))
  scalar_at g fs are h n i there = framed_address g h (site_places e (g ∷ fs)) (sym (places_framed g fs h)) n (scalar_parameter e is g h n (parameter_at e is g h i (Scalar n) there))

  counts_framed : (g : ℕ) (fs : List ℕ) (h : FrameAt e g) (f : ℕ) → site_counts e (g ∷ fs) f ≡ or_zero (called_parameters e.code h.code f)
  counts_framed g fs h f = ap (λ c. counts_in e c f) h.there

  pub parameter_in : (active : List ℕ) → AreActive e active → (f i : ℕ) → i < site_counts e active f → ParameterIn e active f i
  parameter_in [] are f i less = absurd (omega (arith, less))
  parameter_in (g ∷ fs) are f i less =
      let h = frame_first g fs are in
      let c = counted (slice_get e.code.functions f) (is_listed f (callees h.code)) i (subst (λ n. i < n) (counts_framed g fs h f) less) in
      let at = frame_at e is f (slice_get_within e.code.functions f c.function c.there) in
      let same = same_Some c.function at.code (sym c.there ∙ at.there) in
      let v = element_there (at.code).params i (subst (λ (k : FunctionCode). i < length k.params) same c.less) in
      record {
        name = v.0;
        at = at;
        there = v.1;
        called = ((callees h.code, calls_listed e is g h, listed_contained f (callees h.code) c.is), are);
        word = parameter_named (g ∷ fs) are f at i v.0 v.1;
      }

  -- two parameters of a function differ
  pairs_differ : (ps : List VarRef) → AllPairs (λ a b. a ≢ b) ps → (i j : ℕ) (v u : VarRef) → slice_get ps i ≡ Some v → slice_get ps j ≡ Some u → i < j → v ≢ u
  pairs_differ ps all i j v u at there less same =
      all i j v less (slice_get_within ps j u there) (get_or_from_slice_get ps i v v at ∙ same ∙ sym (get_or_from_slice_get ps j u v there))

  pub names_differ : (f : ℕ) (h : FrameAt e f) (i j : ℕ) (v u : VarRef) → slice_get h.code.params i ≡ Some v → slice_get h.code.params j ≡ Some u → i ≢ j → v ≢ u
  names_differ f h i j v u at there differ same = ⊎_elim (λ less. pairs_differ h.code.params (function_is e is f h).differ i j v u at there less same)
      (λ more. ⊎_elim (λ less. pairs_differ h.code.params (function_is e is f h).differ j i u v there at less (sym same)) (λ least. differ (omega (arith, more, least))) (cases_lt j i)) (cases_lt i j)
