-- Words in an accumulator of 32 bits.
use Rattle.std.proofs.Common.{◌≡◌, ℕ, ◌+◌, ◌*◌, ◌^◌, ◌<◌, ◌≤◌, Bool, true, false, Option, Some, refl, sym, ap, ◌∙◌, ⊎_elim, inl, inr, arith}
use Rattle.std.specs.Prelude.{◌⊎◌, nat_lt, if◌then◌else◌}
use Rattle.std.proofs.lemmas.Bool.{cases_lt, cond_below, cond_above, ltb-true}
use Rattle.acc_select.specs.acc_operations.declared.high_half.HighHalf.{HighHalf}
use Rattle.acc_select.specs.acc_operations.declared.high_half.HighHalf.TheVariants.{Any, Zero, Sign, Small}
use Rattle.c25_isa.specs.Step.{extended, wrap16, wrap32}
use Rattle.ir_semantics.specs.AccRows.{Acc, Whole, low_half, scaled}
use Rattle.acc_select_proof.proofs.Straights.{Has}

pub ext_is : (x : ℕ) → ((x < 32768) × (extended true x ≡ x)) ⊎ ((32768 ≤ x) × (extended true x ≡ x + 4294901760))
ext_is x =
    ⊎_elim
    (λ lt. inl (lt, sym (cond_below x 32768 x (x + 4294901760) lt)))
    (λ le. inr (le, sym (cond_above x 32768 x (x + 4294901760) (x + 4294901760) le refl)))
    (cases_lt x 32768)

pub ext_low : (x : ℕ) → x < 65536 → wrap16 (extended true x) ≡ x
ext_low x lt = omega (arith, ext_is x)

-- the low half is the word, whatever is known of the high half
pub has_low : (h : HighHalf) (x : ℕ) (a : Acc) → x < 65536 → Has h x a → low_half a ≡ Some x
has_low Any x a lt e = e
has_low Zero x a lt e = let m : wrap16 x ≡ x = omega (arith, lt) in ap low_half e ∙ ap Some m
has_low Sign x a lt e = ap low_half e ∙ ap Some (ext_low x lt)
has_low Small x a lt e = let m : wrap16 x ≡ x = omega (arith, lt) in ap low_half e.0 ∙ ap Some m

pub small_sign : (x : ℕ) → x < 32768 → x ≡ extended true x
small_sign x lt = omega (arith, ext_is x)

-- a word that is extended by its sign, without a shift
pub scaled_word : (s : Option Bool) (x : ℕ) → s ≡ Some true → x < 65536 → scaled s x 0 ≡ Whole (extended true x)
scaled_word s x is lt =
    let same : wrap32 (extended true x * 2 ^ 0) ≡ extended true x = omega (arith, ext_is x, lt) in
    ap (λ b. scaled b x 0) is ∙ ap Whole same

-- a constant is a small one below 8000h
pub constant_has : (w : ℕ) (b : Bool) → nat_lt w 32768 ≡ b → Has (if b then Small else Sign) w (Whole (extended true w))
constant_has w true e = (ap Whole (sym (small_sign w (ltb-true w 32768 e))), ltb-true w 32768 e)
constant_has w false e = refl
