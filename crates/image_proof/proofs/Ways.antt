-- Active functions: each reaches the first one by calls, so any two can be active at once, and none is active twice.
use Rattle.std.proofs.Common.{◌≡◌, ◌≢◌, ◌<◌, ◌≤◌, ◌⊎◌, ℕ, ◌||◌, Bool, true, false, true≢false, List, [], ◌∷◌, ◌++◌, length, refl, sym, inl, inr, eqb, eqb-true, ne_eqb, subst, arith}
use Rattle.std.specs.List.{AllByRecursion, IsDistinct, list_any}
use Rattle.std.proofs.lemmas.List.{length-append}
use Rattle.std.proofs.lemmas.Map.Steps.{length-le_from_distinct_below}
use Rattle.c_tree.specs.Rounds.{IsWay}
use Rattle.mem_plan.specs.Ranges.{Reaches}
use Rattle.image_proof.specs.Emissions.{Emission, IsEmission}
use Rattle.image_proof.specs.Active.{CallsIn, IsCalledBy, AreActive, IsAmong}

-- a way with a call behind it
way_on : (calls : ℕ → ℕ → Type 0) (f : ℕ) (ms : List ℕ) (h g : ℕ) → IsWay calls f ms h → calls h g → IsWay calls f (ms ++ g ∷ []) g
way_on calls f [] h g same call = (subst (λ n. calls n g) (sym same) call, refl)
way_on calls f (m ∷ ms) h g way call = (way.0, way_on calls m ms h g way.1 call)

module _ (e : Emission) where
  -- each reaches the first one
  pub reaches_first : (g : ℕ) (fs : List ℕ) → AreActive e (g ∷ fs) → (f : ℕ) → IsAmong (g ∷ fs) f → Reaches e.code f g
  reaches_first g fs active f (inl same) = ([], same)
  reaches_first g [] active f (inr other) = absurd other
  reaches_first g (h ∷ hs) active f (inr other) =
      let way = reaches_first h hs active.1 f other in
      (way.0 ++ g ∷ [], way_on (CallsIn e) f way.0 h g way.1 active.0)

  pub one_reaches : (active : List ℕ) → AreActive e active → (f h : ℕ) → IsAmong active f → IsAmong active h → Reaches e.code f h ⊎ Reaches e.code h f
  one_reaches [] active f h among other = absurd among
  one_reaches (g ∷ fs) active f h among (inl same) = inl (subst (Reaches e.code f) (sym same) (reaches_first g fs active f among))
  one_reaches (g ∷ fs) active f h (inl same) (inr other) = inr (subst (Reaches e.code h) (sym same) (reaches_first g fs active h (inr other)))
  one_reaches (g ∷ fs) active f h (inr among) (inr other) = one_reaches fs active.1 f h among other

  module _ (is : IsEmission e) where
    -- the first one isn't active before
    pub first_differs : (g : ℕ) (fs : List ℕ) → AreActive e (g ∷ fs) → (f : ℕ) → IsAmong fs f → f ≢ g
    first_differs g [] active f among same = absurd among
    first_differs g (h ∷ hs) active f among same =
        let way = reaches_first h hs active.1 f among in
        let long = length-append way.0 (g ∷ []) in
        is.code.no_cycle f (way.0 ++ g ∷ []) (omega (arith, long), subst (IsWay (CallsIn e) f (way.0 ++ g ∷ [])) (sym same) (way_on (CallsIn e) f way.0 h g way.1 active.0))

    first_there : (g : ℕ) (fs : List ℕ) → IsCalledBy e fs g → g < length e.code.functions
    first_there g [] called = called
    first_there g (f ∷ fs) called = is.code.bodies f g called

    pub active_there : (active : List ℕ) → AreActive e active → (f : ℕ) → IsAmong active f → f < length e.code.functions
    active_there [] active f among = absurd among
    active_there (g ∷ fs) active f (inl same) = subst (λ n. n < length e.code.functions) (sym same) (first_there g fs active.0)
    active_there (g ∷ fs) active f (inr among) = active_there fs active.1 f among

    -- so they are as many as there are functions, at most
    all_differ : (g : ℕ) (fs : List ℕ) → ((f : ℕ) → IsAmong fs f → f ≢ g) → AllByRecursion (λ f. eqb g f ≡ false) fs
    all_differ g [] differ = tt
    all_differ g (f ∷ fs) differ = (ne_eqb g f (λ same. differ f (inl refl) (sym same)), all_differ g fs (λ h among. differ h (inr among)))

    distinct : (active : List ℕ) → AreActive e active → IsDistinct eqb active
    unfolding IsDistinct
    distinct [] active = tt
    distinct (g ∷ fs) active = (all_differ g fs (first_differs g fs active), distinct fs active.1)

    any_by : (q g : ℕ) (fs : List ℕ) → (list_any (eqb q) fs ≡ true → IsAmong fs q) → (b : Bool) → eqb q g ≡ b → (b || list_any (eqb q) fs) ≡ true → IsAmong (g ∷ fs) q
    any_by q g fs rest true same any = inl (eqb-true q g same)
    any_by q g fs rest false same any = inr (rest any)

    any_among : (q : ℕ) (fs : List ℕ) → list_any (eqb q) fs ≡ true → IsAmong fs q
    any_among q [] any = absurd (true≢false (sym any))
    any_among q (g ∷ fs) any = any_by q g fs (any_among q fs) (eqb q g) refl any

    pub few_active : (active : List ℕ) → AreActive e active → length active ≤ length e.code.functions
    few_active active are = length-le_from_distinct_below active (length e.code.functions) (distinct active are) (λ q any. active_there active are q (any_among q active any))
