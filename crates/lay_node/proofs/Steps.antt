-- Lists of greatest weights, one scalar more at a time.
use Rattle.std.proofs.Common.{◌≡◌, ℕ, ◌+◌, ◌<◌, Bool, true, false, List, length, ap, sym, ◌∙◌, arith, inl, inr, get_or-set_same, get_or-set_other}
use Rattle.std.specs.Prelude.{slice_index, slice_set}
use Rattle.std.proofs.lemmas.Bool.{cases_eq, both_ways}

pub next_greatest : (gs : List ℕ) (f : ℕ → ℕ) (free : ℕ → Bool) (i v : ℕ) → i < length gs → v ≡ f i → ((s : ℕ) → s < i → free s ≡ true → slice_index gs s ≡ f s)
    → (s : ℕ) → s < i + 1 → free s ≡ true → slice_index (slice_set gs i v) s ≡ f s
next_greatest gs f free i v lt is before s below e = elim (cases_eq s i) [
  | inl same ↦ ap (slice_index (slice_set gs i v)) same ∙ get_or-set_same gs i v 0 lt ∙ is ∙ ap f (sym same)
  | inr differ ↦ get_or-set_other gs i s v 0 differ ∙ before s (omega (arith, below, differ)) e
]

pub skip_greatest : (gs : List ℕ) (f : ℕ → ℕ) (free : ℕ → Bool) (i : ℕ) → free i ≡ false → ((s : ℕ) → s < i → free s ≡ true → slice_index gs s ≡ f s)
    → (s : ℕ) → s < i + 1 → free s ≡ true → slice_index gs s ≡ f s
skip_greatest gs f free i taken before s below e = elim (cases_eq s i) [
  | inl same ↦ absurd (both_ways (free i) taken (ap free (sym same) ∙ e))
  | inr differ ↦ before s (omega (arith, below, differ)) e
]

pub next_others : (old gs : List ℕ) (free : ℕ → Bool) (i v : ℕ) → free i ≡ true → ((s : ℕ) → (s < i → free s ≡ false) → slice_index gs s ≡ slice_index old s)
    → (s : ℕ) → (s < i + 1 → free s ≡ false) → slice_index (slice_set gs i v) s ≡ slice_index old s
next_others old gs free i v e before s other = elim (cases_eq s i) [
  | inl same ↦ absurd (both_ways (free i) (ap free (sym same) ∙ other (omega (arith, same))) e)
  | inr differ ↦ get_or-set_other gs i s v 0 differ ∙ before s (λ lt. other (omega (arith, lt)))
]

pub skip_others : (old gs : List ℕ) (free : ℕ → Bool) (i : ℕ) → ((s : ℕ) → (s < i → free s ≡ false) → slice_index gs s ≡ slice_index old s)
    → (s : ℕ) → (s < i + 1 → free s ≡ false) → slice_index gs s ≡ slice_index old s
skip_others old gs free i before s other = before s (λ lt. other (omega (arith, lt)))
