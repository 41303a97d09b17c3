-- A loop by its turns.
use Rattle.std.proofs.Common.{◌≡◌, ◌<◌, ◌≤◌, ◌+◌, ◌-◌, ◌∙◌, arith, refl, sym, ap, subst, ℕ, suc, Bool, true, false, Option, Some, None}
use Rattle.word_base.specs.Ports.{Outputs}
use Rattle.c_tree.specs.Store.{World, Res, Gives, Finished, TooMany, Fails, Does, after, ◌>>=◌, give}
use Rattle.c_tree.specs.Eval.{Env, choose}
use Rattle.c_tree.specs.Exec.{Flow, Next, Broke, Continued, Returned, after_turn}
use Rattle.c_means.specs.Turns.{left_by, unless_left, turn, turn_first}
use Rattle.c_state.specs.declared.value.Stop.{Stop}
use Rattle.c_state.specs.declared.value.Stop.TheVariants as stops
use Rattle.c_state.specs.Worlds.{Stops}

-- one part of a run behind another, whichever way they are grouped
pub grouped : {A B C : Type 0} (r : Res A) (f : A → Does B) (g : B → Does C) → after (after r f) g ≡ after r (λ a w. after (f a w) g)
grouped (Gives a w) f g = refl
grouped (Finished e outs) f g = refl
grouped (TooMany outs) f g = refl
grouped (Fails kind at outs) f g = refl

pub same_behind : {A B : Type 0} (r : Res A) (f g : A → Does B) → ((a : A) (w : World) → f a w ≡ g a w) → after r f ≡ after r g
same_behind (Gives a w) f g is = is a w
same_behind (Finished e outs) f g is = refl
same_behind (TooMany outs) f g is = refl
same_behind (Fails kind at outs) f g is = refl

-- a part of a run that stopped stops what is behind it
pub stops_behind : {A B : Type 0} (r : Res A) (f : A → Does B) (outs : Outputs) (s : Stop) → Stops r outs s → Stops (after r f) outs s
stops_behind r f outs (stops.Ended ending) is = ap (λ x. after x f) is
stops_behind r f outs stops.More is = ap (λ x. after x f) is
stops_behind r f outs (stops.Undefined kind at) is = ap (λ x. after x f) is
stops_behind r f outs stops.NoMemory is = tt {0}

-- a loop goes on behind a turn, or was left
abbrev pub follows : Option Flow → Does Flow → Does Flow
follows None again = again
follows (Some flow) again = give flow

module _ (test : Does Bool) (each : Does Flow) (third : Does (Unit {0})) (again : Does Flow) where
  third_part : (r : Res (Unit {0})) → after r (λ _. again) ≡ after (after r (λ _. give None)) (λ o. follows o again)
  third_part (Gives u w) = refl
  third_part (Finished e outs) = refl
  third_part (TooMany outs) = refl
  third_part (Fails kind at outs) = refl

  body_part : (flow : Flow) (w : World) → after_turn flow (third >>= λ _. again) w ≡ after (unless_left (left_by flow) (third >>= λ _. give None) w) (λ o. follows o again)
  body_part Next w = third_part (third w)
  body_part Continued w = third_part (third w)
  body_part Broke w = refl
  body_part (Returned v) w = refl

  test_part : (t : Bool) (w : World)
      → choose t (each >>= λ flow. after_turn flow (third >>= λ _. again)) (give Next) w
      ≡ after (choose t (each >>= λ flow. unless_left (left_by flow) (third >>= λ _. give None)) (give (Some Next)) w) (λ o. follows o again)
  test_part true w = same_behind (each w) _ _ body_part ∙ sym (grouped (each w) _ _)
  test_part false w = refl

  pub one_turn : (w : World)
      → (test >>= λ t. choose t (each >>= λ flow. after_turn flow (third >>= λ _. again)) (give Next)) w ≡ after (turn test each third w) (λ o. follows o again)
  one_turn w = same_behind (test w) _ _ test_part ∙ sym (grouped (test w) _ _)

  last_part : (t : Bool) (w : World) → choose t again (give Next) w ≡ after (choose t (give None) (give (Some Next)) w) (λ o. follows o again)
  last_part true w = refl
  last_part false w = refl

  first_part : (flow : Flow) (w : World)
      → after_turn flow (test >>= λ t. choose t again (give Next)) w ≡ after (unless_left (left_by flow) (test >>= λ t. choose t (give None) (give (Some Next))) w) (λ o. follows o again)
  first_part Next w = same_behind (test w) _ _ last_part ∙ sym (grouped (test w) _ _)
  first_part Continued w = same_behind (test w) _ _ last_part ∙ sym (grouped (test w) _ _)
  first_part Broke w = refl
  first_part (Returned v) w = refl

  pub one_turn_first : (w : World)
      → (each >>= λ flow. after_turn flow (test >>= λ t. choose t again (give Next))) w ≡ after (turn_first each test w) (λ o. follows o again)
  one_turn_first w = same_behind (each w) _ _ first_part ∙ sym (grouped (each w) _ _)

-- the turns that are left
fewer : (n k : ℕ) → k < n → n - k ≡ suc (n - (k + 1))
fewer n k less = omega (arith, less)

none_left : (n k : ℕ) → n ≤ k → n - k ≡ 0
none_left n k all = omega (arith, all)

-- a loop of which so many turns are done, in an environment that is still the first one
module _ (T : Env → Does (Option Flow)) (L : ℕ → Env → Does Flow) (step : (n : ℕ) (e : Env) (w : World) → L (suc n) e w ≡ after (T e w) (λ o. follows o (L n e)))
    (n k : ℕ) (first env : Env) (same : env ≡ first) (w0 w : World) (so_far : L (n - k) first w ≡ L n first w0) where
  here : k < n → after (T env w) (λ o. follows o (L (n - (k + 1)) first)) ≡ L n first w0
  here less =
      ap (λ e. after (T e w) (λ o. follows o (L (n - (k + 1)) first))) same
      ∙ sym (step (n - (k + 1)) first w)
      ∙ ap (λ m. L m first w) (sym (fewer n k less))
      ∙ so_far

  pub loop_left : k < n → (o : Option Flow) (flow : Flow) (w' : World) → T env w ≡ Gives o w' → o ≡ Some flow → L n first w0 ≡ Gives flow w'
  loop_left less o flow w' gave is = sym (here less) ∙ ap (λ r. after r (λ p. follows p (L (n - (k + 1)) first))) gave ∙ ap (λ p. follows p (L (n - (k + 1)) first) w') is

  pub loop_on : k < n → (o : Option Flow) (w' : World) → T env w ≡ Gives o w' → o ≡ None → L (n - (k + 1)) first w' ≡ L n first w0
  loop_on less o w' gave is = sym (ap (λ r. after r (λ p. follows p (L (n - (k + 1)) first))) gave ∙ ap (λ p. follows p (L (n - (k + 1)) first) w') is) ∙ here less

  pub loop_stops : k < n → (outs : Outputs) (s : Stop) → Stops (T env w) outs s → Stops (L n first w0) outs s
  loop_stops less outs s h = subst (λ r. Stops r outs s) (here less) (stops_behind _ _ outs s h)

  pub loop_end : n ≤ k → L 0 first w ≡ L n first w0
  loop_end all = ap (λ m. L m first w) (sym (none_left n k all)) ∙ so_far

-- a turn whose body didn't leave the loop, up to its test or third part
module _ (each : Does Flow) (flow : Flow) (w w1 : World) (gave : each w ≡ Gives flow w1) (stays : left_by flow ≡ None) where
  rest_of : (rest : Does (Option Flow)) → after (each w) (λ f. unless_left (left_by f) rest) ≡ rest w1
  rest_of rest = ap (λ r. after r (λ f. unless_left (left_by f) rest)) gave ∙ ap (λ o. unless_left o rest w1) stays

  pub first_tests : (test : Does Bool) (b : Bool) (w2 : World) → test w1 ≡ Gives b w2 → turn_first each test w ≡ choose b (give None) (give (Some Next)) w2
  first_tests test b w2 is = rest_of (test >>= λ t. choose t (give None) (give (Some Next))) ∙ ap (λ r. after r (λ t. choose t (give None) (give (Some Next)))) is

  pub first_test_stops : (test : Does Bool) (outs : Outputs) (s : Stop) → Stops (test w1) outs s → Stops (turn_first each test w) outs s
  first_test_stops test outs s h = subst (λ r. Stops r outs s) (sym (rest_of (test >>= λ t. choose t (give None) (give (Some Next))))) (stops_behind _ _ outs s h)

  module _ (test : Does Bool) (w0 : World) (goes : test w0 ≡ Gives true w) (third : Does (Unit {0})) where
    pub thirds : turn test each third w0 ≡ after (third w1) (λ _. give None)
    thirds = ap (λ r. after r (λ t. choose t (each >>= λ f. unless_left (left_by f) (third >>= λ _. give None)) (give (Some Next)))) goes ∙ rest_of (third >>= λ _. give None)

    pub third_stops : (outs : Outputs) (s : Stop) → Stops (third w1) outs s → Stops (turn test each third w0) outs s
    third_stops outs s h = subst (λ r. Stops r outs s) (sym thirds) (stops_behind _ _ outs s h)

    pub third_gives : (w2 : World) → third w1 ≡ Gives (tt {0}) w2 → turn test each third w0 ≡ Gives None w2
    third_gives w2 is = thirds ∙ ap (λ r. after r (λ _. give None)) is
