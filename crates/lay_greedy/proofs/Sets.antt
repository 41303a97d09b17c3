-- Sets of scalars by their bits.
use Rattle.std.proofs.Common.{◌≡◌, ◌<◌, ◌*◌, ◌%◌, ◌^◌, ◌∙◌, ◌++◌, ℕ, List, [], ◌∷◌, Bool, true, false, refl, ap, sym, inl, inr, bit_or, w64}
use Rattle.std.specs.Prelude.{◌==◌, ◌||◌}
use Rattle.std.proofs.lemmas.Bool.{cases_eq, eq-eqb, ne_eqb, or_right}
use Rattle.std.proofs.lemmas.List.Folds.{list_any-append}
use Rattle.std.proofs.lemmas.Nat.Bits.{bit_at_set_same, bit_at_set_other}
use Rattle.lay_cost.specs.Placements.{has}
use Rattle.lay_cost.specs.Restricted.{in_bits}

or_none : (b : Bool) → (b || (false || false)) ≡ b
or_none true = refl
or_none false = refl

pub set_more : (set t s : ℕ) (xs : List ℕ) → t < 64 → s < 64 → in_bits set s ≡ has xs s → in_bits (bit_or set (1 * 2 ^ t % 2 ^ 64)) s ≡ has (xs ++ (t ∷ [])) s
set_more set t s xs t_lt s_lt e = elim (cases_eq s t) [
  | inl same ↦ ap (λ v. in_bits (bit_or set (1 * 2 ^ t % 2 ^ 64)) v) same
      ∙ (ap (λ b. b == 1) (bit_at_set_same w64 set t t_lt)
      ∙ sym (list_any-append (λ v. v == s) xs (t ∷ []) ∙ or_right (has xs s) _ (rw (eq-eqb t s (sym same)) refl)))
  | inr differ ↦ ap (λ b. b == 1) (bit_at_set_other w64 set t t_lt s differ)
      ∙ (e ∙ sym (list_any-append (λ v. v == s) xs (t ∷ []) ∙ (ap (λ b. has xs s || (b || false)) (ne_eqb t s (λ h. differ (sym h))) ∙ or_none (has xs s))))
]
