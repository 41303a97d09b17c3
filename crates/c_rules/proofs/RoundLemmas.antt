-- What is said of rounds by one way to tell calls holds by another.
use Rattle.std.proofs.Common.{◌≤◌, ℕ, List, [], ◌∷◌, inl, inr, arith}
use Rattle.std.proofs.lemmas.Bool.{cases_lt}
use Rattle.c_rules.specs.Rounds.{IsWay, IsRound, IsFirstRound, IsFirstChain, NoneBelow, HasNoRound}

-- what is said of rounds by one way to tell calls holds by another
way_along : (calls others : ℕ → ℕ → Type 0) → ((n m : ℕ) → calls n m → others n m) → (n : ℕ) (ms : List ℕ) (z : ℕ) → IsWay calls n ms z → IsWay others n ms z
way_along calls others along n [] z way = way
way_along calls others along n (m ∷ ms) z way = (along n m way.0, way_along calls others along m ms z way.1)

pub round_along : (calls others : ℕ → ℕ → Type 0) → ((n m : ℕ) → calls n m → others n m) → (n : ℕ) (ms : List ℕ) → IsRound calls n ms → IsRound others n ms
round_along calls others along n ms round = (round.0, way_along calls others along n ms n round.1)

pub first_round_along : (calls others : ℕ → ℕ → Type 0) → ((n m : ℕ) → calls n m → others n m) → ((n m : ℕ) → others n m → calls n m) → (n : ℕ) (ms : List ℕ)
    → IsFirstRound calls n ms → IsFirstRound others n ms
first_round_along calls others along back n ms known = record {
  round = round_along calls others along n ms known.round;
  first = λ k vs less round. known.first k vs less (round_along others calls back k vs round);
  least = λ vs round. known.least vs (round_along others calls back n vs round);
}

pub first_chain_along : (calls others : ℕ → ℕ → Type 0) → ((n m : ℕ) → calls n m → others n m) → ((n m : ℕ) → others n m → calls n m) → (numbers : List ℕ)
    → IsFirstChain calls numbers → IsFirstChain others numbers
first_chain_along calls others along back numbers known = record {
  number = known.number;
  over = known.over;
  is = known.is;
  is_first = first_round_along calls others along back known.number known.over known.is_first;
}

-- no function reaches itself, where none of those that call does
pub no_rounds : (calls : ℕ → ℕ → Type 0) (n : ℕ) → NoneBelow calls n → ((k m : ℕ) → n ≤ k → ¬ calls k m) → HasNoRound calls
no_rounds calls n none idle k [] round = absurd (omega (arith, round.0))
no_rounds calls n none idle k (m ∷ ms) round =
    elim (cases_lt k n) [
      | inl below ↦ none k (m ∷ ms) below round
      | inr past ↦ idle k m past round.1.0
    ]
