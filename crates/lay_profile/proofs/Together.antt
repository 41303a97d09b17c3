-- The counts of several places.
use Rattle.std.proofs.Common.{◌≡◌, ℕ, zero, suc, ◌+◌, ◌<◌, ◌≤◌, Bool, true, false, List, [], ◌∷◌, ◌++◌, length, get_or, drop, map, refl, sym, ap, subst, ◌∙◌, arith, append_assoc, append-nil}
use Rattle.std.specs.Prelude.{All, ◌==◌, ◌&&◌, count_by, sum}
use Rattle.std.proofs.lemmas.List.{drop_more, drop_all}
use Rattle.std.proofs.lemmas.List.Elements.{All-nil, All-cons}
use Rattle.std.proofs.lemmas.List.Sums.{sum_by-cons}
use Rattle.std.proofs.lemmas.Bool.{eqb-false, ne_eqb}
use Rattle.c25_isa.specs.State.{State}
use Rattle.c25_isa.specs.MachineRun.{run_from}
use Rattle.c25_sim.specs.Answers.{state_after}
use Rattle.lay_cost.specs.Parts.{StandOnce}
use Rattle.lay_profile.specs.Entries.{still_runs, is_at, times_at}
use Rattle.lay_profile.proofs.Counts.{one_if, times_few, times_more}

-- ---- one place more

pub looked_up : (f : ℕ → ℕ) (places counts : List ℕ) (i place count : ℕ) → i < length places → place ≡ get_or places i 0 → count ≡ f place
    → counts ++ map f (drop i places) ≡ map f places → (counts ++ count ∷ []) ++ map f (drop (i + 1) places) ≡ map f places
looked_up f places counts i place count lt is found before =
    append_assoc counts (count ∷ []) (map f (drop (i + 1) places))
    ∙ ap (λ n. counts ++ n ∷ map f (drop (i + 1) places)) (found ∙ ap f is)
    ∙ sym (ap (λ l. counts ++ map f l) (drop_more places i 0 lt))
    ∙ before

pub all_looked_up : (f : ℕ → ℕ) (places counts : List ℕ) (i : ℕ) → length places ≤ i → counts ++ map f (drop i places) ≡ map f places → counts ≡ map f places
all_looked_up f places counts i past before =
    sym (append-nil counts)
    ∙ ap (λ l. counts ++ map f l) (sym (drop_all i places past))
    ∙ before

-- ---- what the counts come to

pub each_few : (s : State) (steps : ℕ) (places : List ℕ) → All (λ count. count ≤ steps) (map (times_at s steps) places)
each_few s steps [] = All-nil (λ count. count ≤ steps)
each_few s steps (place ∷ places) =
    All-cons (λ count. count ≤ steps) (times_at s steps place) (map (times_at s steps) places) (times_few s steps place) (each_few s steps places)

-- the sum over places, when no step is done and behind one more step
sum_none : (s : State) (places : List ℕ) → sum (map (times_at s 0) places) ≡ 0
sum_none s [] = refl
sum_none s (place ∷ places) = sum_by-cons (λ x. x) (times_at s 0 place) (map (times_at s 0) places) ∙ ap (λ n. 0 + n) (sum_none s places)

sum_more : (s : State) (i : ℕ) (places : List ℕ) → sum (map (times_at s (i + 1)) places) ≡ sum (map (times_at s i) places) + count_by (λ place. is_at s place i) places
sum_more s i [] = refl
sum_more s i (place ∷ places) =
    omega (
      arith,
      sum_by-cons (λ x. x) (times_at s (i + 1) place) (map (times_at s (i + 1)) places),
      sum_by-cons (λ x. x) (times_at s i place) (map (times_at s i) places),
      sum_by-cons (λ p. one_if (is_at s p i)) place places,
      times_more s i place,
      sum_more s i places,
    )

le_one : (b : Bool) → one_if b ≤ 1
le_one true = omega arith
le_one false = omega arith

only_there : (b : Bool) (place pc : ℕ) → one_if (b && (pc == place)) ≤ one_if (place == pc)
only_there b place pc = by (place == pc) refl
  where
    nowhere : (c : Bool) → one_if (c && false) ≤ 0
    nowhere true = omega arith
    nowhere false = omega arith

    by : (c : Bool) → (place == pc) ≡ c → one_if (b && (pc == place)) ≤ one_if c
    by true e = le_one (b && (pc == place))
    by false e = subst (λ x. one_if (b && x) ≤ 0) (sym (ne_eqb pc place (λ q. eqb-false place pc e (sym q)))) (nowhere b)

-- it is at no more of them than hold its PC
at_pc : (s : State) (i : ℕ) (places : List ℕ) → count_by (λ place. is_at s place i) places ≤ count_by (λ place. place == (state_after i s).pc) places
at_pc s i [] = omega arith
at_pc s i (place ∷ places) =
    let pc = (state_after i s).pc in
    omega (
      arith,
      sum_by-cons (λ p. one_if (is_at s p i)) place places,
      sum_by-cons (λ p. one_if (p == pc)) place places,
      only_there (still_runs (run_from i s [])) place pc,
      at_pc s i places,
    )

pub few_together : (s : State) (steps : ℕ) (places : List ℕ) → StandOnce places → sum (map (times_at s steps) places) ≤ steps
few_together s zero places once = omega (arith, sum_none s places)
few_together s (suc i) places once =
    let e : suc i ≡ i + 1 = omega arith in
    let more : sum (map (times_at s (suc i)) places) ≡ sum (map (times_at s i) places) + count_by (λ place. is_at s place i) places = ap (λ n. sum (map (times_at s n) places)) e ∙ sum_more s i places in
    omega (arith, more, at_pc s i places, once (state_after i s).pc, few_together s i places once)
