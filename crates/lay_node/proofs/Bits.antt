-- A set of scalars as a number, from the highest one down.
use Rattle.std.proofs.Common.{◌≡◌, ℕ, zero, suc, ◌+◌, ◌*◌, ◌/◌, ◌%◌, ◌^◌, ◌<◌, ◌≤◌, Bool, true, false, refl, ap, sym, ◌∙◌, arith}
use Rattle.std.specs.Prelude.{◌==◌}
use Rattle.std.proofs.Math.Nat.{pow-suc, pow-le-pow_right, div-one}
use Rattle.std.proofs.lemmas.Nat.{shr-shr, shr_high, mod_low}
use Rattle.lay_cost.specs.Restricted.{in_bits}
use Rattle.lay_node.proofs.Sizes.{one_if}

-- the bits of so many scalars from one on
abbrev pub bits_from : (ℕ → Bool) → ℕ → ℕ → ℕ
bits_from p a zero = 0
bits_from p a (suc n) = bits_from p (a + 1) n * 2 + one_if (p a)

bit_small : (b : Bool) → one_if b < 2
bit_small true = omega arith
bit_small false = omega arith

bit_is : (b : Bool) → (one_if b == 1) ≡ b
bit_is true = refl
bit_is false = refl

pub bits_below : (p : ℕ → Bool) (a n : ℕ) → bits_from p a n < 2 ^ n
bits_below p a zero = omega arith
bits_below p a (suc n) =
    let power : 2 ^ suc n ≡ 2 ^ n * 2 = pow-suc 2 n in
    rw power (omega (arith, bits_below p (a + 1) n, bit_small (p a)))

pub bits_fit : (p : ℕ → Bool) (a n : ℕ) → n ≤ 63 → bits_from p a n * 2 + 1 < 2 ^ 64
bits_fit p a n le =
    let power : 2 ^ n ≤ 2 ^ 63 = pow-le-pow_right (omega arith) le in
    omega (arith, bits_below p a n, power)

low_bit : (r b : ℕ) → b < 2 → (r * 2 + b) / 2 ^ 0 % 2 ≡ b
low_bit r b lt = ap (λ x. x % 2) (div-one (r * 2 + b)) ∙ mod_low r 1 b lt

high_bits : (r b j : ℕ) → b < 2 → (r * 2 + b) / 2 ^ suc j ≡ r / 2 ^ j
high_bits r b j lt =
    let e : suc j ≡ 1 + j = omega arith in
    ap (λ i. (r * 2 + b) / 2 ^ i) e ∙ sym (shr-shr (r * 2 + b) 1 j) ∙ ap (λ x. x / 2 ^ j) (shr_high r 1 b lt)

pub bits_at : (p : ℕ → Bool) (a n j : ℕ) → j < n → in_bits (bits_from p a n) j ≡ p (a + j)
bits_at p a zero j lt = absurd (omega (arith, lt))
bits_at p a (suc n) zero lt =
    let here : a ≡ a + 0 = omega arith in
    ap (λ x. x == 1) (low_bit (bits_from p (a + 1) n) (one_if (p a)) (bit_small (p a))) ∙ bit_is (p a) ∙ ap p here
bits_at p a (suc n) (suc j) lt =
    let there : (a + 1) + j ≡ a + suc j = omega arith in
    ap (λ x. x % 2 == 1) (high_bits (bits_from p (a + 1) n) (one_if (p a)) j (bit_small (p a))) ∙ bits_at p (a + 1) n j (omega (arith, lt)) ∙ ap p there
