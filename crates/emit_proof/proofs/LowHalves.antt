-- The low half of 32 bits that come of an operation is that of the low halves.
use Rattle.std.proofs.Common.{◌≡◌, ℕ, ◌+◌, ◌-◌, ◌*◌, ◌%◌, ◌^◌, ◌<◌, Bool, true, false, cond, refl, sym, ap, ◌∙◌, arith}
use Rattle.std.specs.Prelude.{nat_lt, bit_and, bit_or, bit_xor}
use Rattle.std.proofs.lemmas.Bool.{lt-ltb}
use Rattle.std.proofs.lemmas.Nat.{and_le_r, and_mod, or_mod, xor_mod, mul-mod_first}
use Rattle.c25_isa.specs.Step.{wrap16, wrap32, extended, plus, minus}

-- of an operation on two numbers of 32 bits
abbrev pub ByLowHalves : (ℕ → ℕ → ℕ) → Type 0
ByLowHalves f = (x y : ℕ) → x < 2 ^ 32 → y < 2 ^ 32 → wrap16 (f x y) ≡ wrap16 (f (wrap16 x) (wrap16 y))

pub plus_low : ByLowHalves plus
plus_low x y lx ly = omega arith

pub minus_low : ByLowHalves minus
minus_low x y lx ly = omega arith

low_again : (x : ℕ) → wrap16 (wrap16 x) ≡ wrap16 x
low_again x = omega arith

pub or_low : ByLowHalves bit_or
or_low x y lx ly = or_mod x y 16 ∙ ap (λ i. bit_or i (wrap16 y)) (sym (low_again x)) ∙ ap (bit_or (wrap16 (wrap16 x))) (sym (low_again y)) ∙ sym (or_mod (wrap16 x) (wrap16 y) 16)

pub xor_low : ByLowHalves bit_xor
xor_low x y lx ly = xor_mod x y 16 ∙ ap (λ i. bit_xor i (wrap16 y)) (sym (low_again x)) ∙ ap (bit_xor (wrap16 (wrap16 x))) (sym (low_again y)) ∙ sym (xor_mod (wrap16 x) (wrap16 y) 16)

-- with a word nothing but the low half counts
pub and_low : (x y : ℕ) → y < 65536 → bit_and x y ≡ bit_and (wrap16 x) y
and_low x y lt =
    let small : bit_and x y ≡ wrap16 (bit_and x y) = let le = and_le_r x y in omega (arith, le, lt) in
    let same : wrap16 y ≡ y = omega arith in
    small ∙ and_mod x y 16 ∙ ap (bit_and (wrap16 x)) same

-- a word that is extended and moved up
low_of_low : (n : ℕ) → wrap16 (wrap32 n) ≡ wrap16 n
low_of_low n = omega arith

signed_low : (b : Bool) (x k : ℕ) → wrap16 (cond b x (x + 4294901760) * k) ≡ wrap16 (x * k)
signed_low true x k = refl
signed_low false x k =
    let same : (x + 4294901760) % 65536 ≡ x % 65536 = omega arith in
    sym (mul-mod_first (x + 4294901760) k 65536) ∙ ap (λ i. (i * k) % 65536) same ∙ mul-mod_first x k 65536

pub extended_low : (b : Bool) (x shift : ℕ) → wrap16 (wrap32 (extended b x * 2 ^ shift)) ≡ wrap16 (x * 2 ^ shift)
extended_low false x shift = low_of_low (x * 2 ^ shift)
extended_low true x shift = low_of_low (cond (nat_lt x 32768) x (x + 4294901760) * 2 ^ shift) ∙ signed_low (nat_lt x 32768) x (2 ^ shift)

-- a word below 8000h is extended by zeros
pub extended_small : (b : Bool) (x : ℕ) → x < 32768 → extended b x ≡ x
extended_small false x lt = refl
extended_small true x lt = ap (λ b. cond b x (x + 4294901760)) (lt-ltb x 32768 lt)

-- what is moved up, with its low half alone or with all of it
pub moved_low : (x k : ℕ) → wrap16 (x * k) ≡ wrap16 (wrap16 x * k)
moved_low x k = sym (mul-mod_first x k 65536)

pub doubled_low : (x : ℕ) → wrap16 (wrap32 (2 * x)) ≡ wrap16 (2 * wrap16 x)
doubled_low x = omega arith

pub complement_low : (x : ℕ) → x < 2 ^ 32 → wrap16 (4294967295 - x) ≡ 65535 - wrap16 x
complement_low x lt = omega arith
