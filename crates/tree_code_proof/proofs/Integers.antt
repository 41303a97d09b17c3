-- Sums and differences of integers: where one with a sign fits, its word is that of the one without.
use Rattle.std.proofs.Common.{◌≡◌, ◌⊎◌, inl, inr, ⊎_elim, ℕ, ◌+◌, ◌-◌, ◌%◌, ◌<◌, Bool, true, false, refl, sym, ap, ◌∙◌, arith}
use Rattle.std.specs.Prelude.{ℤ, pos, ◌+ℤ◌, ◌-ℤ◌, if◌then◌else◌}
use Rattle.std.proofs.lemmas.Bool.{cond_below, cond_above, cases_lt}
use Rattle.std.proofs.lemmas.Int.{ints}
use Rattle.word_base.specs.Words.{Good, Bad, signed_of, low16, int_add, int_subtract, unsigned_add, unsigned_subtract}
use Rattle.word_base.specs.declared.outcome.UndefinedKind.TheVariants.{Overflow}
use Rattle.tree_code_proof.proofs.Moving.{low16_is}

pub signed_is : (x : ℕ) → (signed_of x ≡ pos x) ⊎ (signed_of x ≡ pos x -ℤ pos 65536)
signed_is x =
    ⊎_elim
    (λ lt. inl (sym (cond_below x 32768 (pos x) (pos x -ℤ pos 65536) lt)))
    (λ le. inr (sym (cond_above x 32768 (pos x) (pos x -ℤ pos 65536) (pos x -ℤ pos 65536) le refl)))
    (cases_lt x 32768)

sum_low : (x y : ℕ) (m n : ℤ) → (m ≡ pos x) ⊎ (m ≡ pos x -ℤ pos 65536) → (n ≡ pos y) ⊎ (n ≡ pos y -ℤ pos 65536) → low16 (m +ℤ n) ≡ (x + y) % 65536
sum_low x y m n (inl p) (inl q) = low16_is (m +ℤ n) 0 (x + y) (omega (arith, ints, p, q))
sum_low x y m n (inl p) (inr q) = low16_is (m +ℤ n) 1 (x + y) (omega (arith, ints, p, q))
sum_low x y m n (inr p) (inl q) = low16_is (m +ℤ n) 1 (x + y) (omega (arith, ints, p, q))
sum_low x y m n (inr p) (inr q) = low16_is (m +ℤ n) 2 (x + y) (omega (arith, ints, p, q))

-- 65536 more or less on the right is undone by as much on the left
difference_low : (x y : ℕ) (m n : ℤ) → y < 65536 → (m ≡ pos x) ⊎ (m ≡ pos x -ℤ pos 65536) → (n ≡ pos y) ⊎ (n ≡ pos y -ℤ pos 65536) → low16 (m -ℤ n) ≡ (x + (65536 - y)) % 65536
difference_low x y m n lt (inl p) (inl q) = low16_is (m -ℤ n) 1 (x + (65536 - y)) (omega (arith, ints, p, q, lt))
difference_low x y m n lt (inl p) (inr q) = low16_is (m -ℤ n) 0 (x + (65536 - y)) (omega (arith, ints, p, q, lt))
difference_low x y m n lt (inr p) (inl q) = low16_is (m -ℤ n) 2 (x + (65536 - y)) (omega (arith, ints, p, q, lt))
difference_low x y m n lt (inr p) (inr q) = low16_is (m -ℤ n) 1 (x + (65536 - y)) (omega (arith, ints, p, q, lt))

pub fits : (d e : ℤ) (b : Bool) (z : ℕ) → low16 d ≡ low16 e → (if b then Bad Overflow else Good (low16 d)) ≡ Good z → Good (low16 e) ≡ Good z
fits d e true z same is = absurd (bad_good is)
  where
    bad_good : Bad Overflow ≡ Good z → ⊥
    bad_good e = cc
fits d e false z same is = ap Good (sym same) ∙ is

pub sum_agrees : (x y z : ℕ) → int_add x y ≡ Good z → unsigned_add x y ≡ Good z
sum_agrees x y z is = fits (signed_of x +ℤ signed_of y) (pos x +ℤ pos y) _ z (sum_low x y (signed_of x) (signed_of y) (signed_is x) (signed_is y) ∙ sym (sum_low x y (pos x) (pos y) (inl refl) (inl refl))) is

pub difference_agrees : (x y z : ℕ) → y < 65536 → int_subtract x y ≡ Good z → unsigned_subtract x y ≡ Good z
difference_agrees x y z lt is =
    fits (signed_of x -ℤ signed_of y) (pos x -ℤ pos y) _ z (difference_low x y (signed_of x) (signed_of y) lt (signed_is x) (signed_is y) ∙ sym (difference_low x y (pos x) (pos y) lt (inl refl) (inl refl))) is
