-- What comes of an accumulator that is known in part is so of the 32 bits beside it.
use Rattle.std.proofs.Common.{◌≡◌, ℕ, ◌+◌, ◌-◌, ◌*◌, ◌/◌, ◌^◌, ◌<◌, leb-true, Bool, true, false, cond, Option, Some, None, refl, ap, ◌∙◌, subst, arith}
use Rattle.std.specs.Prelude.{nat_lt, nat_le, ◌&&◌, if◌then◌else◌, bit_and}
use Rattle.std.proofs.lemmas.Bool.{ltb-true}
use Rattle.c25_isa.specs.Step.{wrap16, wrap32, extended, half}
use Rattle.ir_semantics.specs.AccRows.{Acc, Gone, Low, Whole, low_half, whole_of, scaled, combined, masked, halved, doubled, complemented, known}
use Rattle.emit_proof.specs.Registers.{AccAlike, IsAsKnown}
use Rattle.emit_proof.proofs.LowHalves.{ByLowHalves, and_low, extended_low, extended_small, doubled_low, complement_low}

some_is : {A : Type 0} (x y : A) → Some x ≡ Some y → x ≡ y
some_is x y e = cc

pub alike_by : (a c : Acc) (x : ℕ) → AccAlike a x → Some a ≡ Some c → AccAlike c x
alike_by a c x h e = subst (λ i. AccAlike i x) (some_is a c e) h

-- a word as SXM extends it
pub scaled_alike : (sxm : Option Bool) (b : Bool) (x shift : ℕ) → IsAsKnown sxm b → AccAlike (scaled sxm x shift) (wrap32 (extended b x * 2 ^ shift))
scaled_alike (Some s) b x shift e = ap (λ i. wrap32 (extended i x * 2 ^ shift)) e
scaled_alike None b x shift e = by (nat_lt x 32768) refl
  where
    by : (c : Bool) → nat_lt x 32768 ≡ c → AccAlike (if c then Whole (wrap32 (x * 2 ^ shift)) else Low (wrap16 (x * 2 ^ shift))) (wrap32 (extended b x * 2 ^ shift))
    by true small = ap (λ i. wrap32 (i * 2 ^ shift)) (extended_small b x (ltb-true x 32768 small))
    by false large = extended_low b x shift

-- sums, differences and operations on bits
pub combined_alike : (f : ℕ → ℕ → ℕ) → ByLowHalves f → (a b c : Acc) (x y : ℕ) → x < 2 ^ 32 → y < 2 ^ 32 → AccAlike a x → AccAlike b y → combined f a b ≡ Some c → AccAlike c (f x y)
combined_alike f low Gone b c x y lx ly h k e = absurd cc
combined_alike f low (Low u) Gone c x y lx ly h k e = absurd cc
combined_alike f low (Low u) (Low v) c x y lx ly h k e = alike_by (Low (wrap16 (f u v))) c (f x y) (low x y lx ly ∙ ap (λ i. wrap16 (f i (wrap16 y))) h ∙ ap (λ i. wrap16 (f u i)) k) e
combined_alike f low (Low u) (Whole z) c x y lx ly h k e = alike_by (Low (wrap16 (f u (wrap16 z)))) c (f x y) (low x y lx ly ∙ ap (λ i. wrap16 (f i (wrap16 y))) h ∙ ap (λ i. wrap16 (f u (wrap16 i))) k) e
combined_alike f low (Whole w) Gone c x y lx ly h k e = absurd cc
combined_alike f low (Whole w) (Low v) c x y lx ly h k e = alike_by (Low (wrap16 (f (wrap16 w) v))) c (f x y) (low x y lx ly ∙ ap (λ i. wrap16 (f (wrap16 i) (wrap16 y))) h ∙ ap (λ i. wrap16 (f (wrap16 w) i)) k) e
combined_alike f low (Whole w) (Whole z) c x y lx ly h k e = alike_by (Whole (f w z)) c (f x y) (ap (λ i. f i y) h ∙ ap (f w) k) e

-- a mask
pub masked_alike : (a c : Acc) (x y : ℕ) → y < 65536 → AccAlike a x → masked (low_half a) y ≡ Some c → AccAlike c (bit_and x y)
masked_alike Gone c x y lt h e = absurd cc
masked_alike (Low u) c x y lt h e = alike_by (Whole (bit_and u y)) c (bit_and x y) (and_low x y lt ∙ ap (λ i. bit_and i y) h) e
masked_alike (Whole z) c x y lt h e = alike_by (Whole (bit_and (wrap16 z) y)) c (bit_and x y) (and_low x y lt ∙ ap (λ i. bit_and (wrap16 i) y) h) e

-- a shift to the right by one
half_small : (b c : Bool) (x : ℕ) → nat_lt x 2147483648 ≡ true → nat_le 2147483648 x ≡ c → cond (b && c) (x / 2 + 2147483648) (x / 2) ≡ x / 2
half_small true true x lt le = absurd (let a = ltb-true x 2147483648 lt in let b = leb-true 2147483648 x le in omega (arith, a, b))
half_small true false x lt le = refl
half_small false c x lt le = refl

pub halved_alike : (sxm : Option Bool) (b : Bool) (a c : Acc) (x : ℕ) → IsAsKnown sxm b → AccAlike a x → halved sxm (whole_of a) ≡ Some c → AccAlike c (half b x)
halved_alike None b Gone c x k h e = absurd cc
halved_alike (Some s) b Gone c x k h e = absurd cc
halved_alike None b (Low u) c x k h e = absurd cc
halved_alike (Some s) b (Low u) c x k h e = absurd cc
halved_alike (Some s) b (Whole z) c x k h e = alike_by (Whole (half s z)) c (half b x) (ap (λ i. half i x) k ∙ ap (half s) h) e
halved_alike None b (Whole z) c x k h e = by (nat_lt z 2147483648) refl e
  where
    by : (d : Bool) → nat_lt z 2147483648 ≡ d → (if d then Some (Whole (half false z)) else None) ≡ Some c → AccAlike c (half b x)
    by true small made = alike_by (Whole (half false z)) c (half b x) (ap (half b) h ∙ half_small b (nat_le 2147483648 z) z small refl) made
    by false large made = absurd cc

-- on the accumulator alone
pub doubled_alike : (a c : Acc) (x : ℕ) → AccAlike a x → known (doubled a) ≡ Some c → AccAlike c (wrap32 (2 * x))
doubled_alike Gone c x h e = absurd cc
doubled_alike (Low u) c x h e = alike_by (Low (wrap16 (2 * u))) c (wrap32 (2 * x)) (doubled_low x ∙ ap (λ i. wrap16 (2 * i)) h) e
doubled_alike (Whole z) c x h e = alike_by (Whole (wrap32 (2 * z))) c (wrap32 (2 * x)) (ap (λ i. wrap32 (2 * i)) h) e

pub complemented_alike : (a c : Acc) (x : ℕ) → x < 2 ^ 32 → AccAlike a x → known (complemented a) ≡ Some c → AccAlike c (4294967295 - x)
complemented_alike Gone c x lt h e = absurd cc
complemented_alike (Low u) c x lt h e = alike_by (Low (65535 - u)) c (4294967295 - x) (complement_low x lt ∙ ap (λ i. 65535 - i) h) e
complemented_alike (Whole z) c x lt h e = alike_by (Whole (4294967295 - z)) c (4294967295 - x) (ap (λ i. 4294967295 - i) h) e
