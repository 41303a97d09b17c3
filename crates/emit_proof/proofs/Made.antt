-- Registers that an operation makes, beside the machine's.
use Rattle.std.proofs.Common.{◌≡◌, ℕ, ◌-◌, ◌%◌, ◌^◌, ◌<◌, ◌≤◌, pos, negsuc, ◌-ℤ◌, Bool, true, false, cond, Option, Some, None, refl, sym, ap, ◌∙◌, subst, arith}
use Rattle.std.specs.Prelude.{nat_lt}
use Rattle.std.proofs.lemmas.Bool.{ltb-false}
use Rattle.std.proofs.lemmas.Int.{ints}
use Rattle.word_base.specs.Words.{signed_of}
use Rattle.c25_isa.specs.Step.{wrap32, product}
use Rattle.c25_code.specs.Work.{Work, InRange}
use Rattle.c25_code.specs.Straight.{scaled as scaled_word}
use Rattle.ir_semantics.specs.AccRows.{Acc, Registers, with_acc, scaled, exact, combined, acc_becomes, multiplied, scaled_by_t, with_product}
use Rattle.emit_blocks.specs.Instructions.{signed_constant}
use Rattle.emit_proof.specs.Registers.{AccAlike, IsAsKnown, RegistersAlike}
use Rattle.emit_proof.proofs.LowHalves.{ByLowHalves}
use Rattle.emit_proof.proofs.Known.{scaled_alike, combined_alike}

wrap32-lt : (n : ℕ) → wrap32 n < 2 ^ 32
wrap32-lt n = omega arith

pub wide : (n : ℕ) → n < 65536 → n < 2 ^ 32
wide n lt = omega arith

pub registers_are : (r s : Registers) (u : Work) → RegistersAlike r u → Some r ≡ Some s → RegistersAlike s u
registers_are r s u h e = subst (λ i. RegistersAlike i u) (let is : r ≡ s = cc in is) h

-- another machine with the same registers
pub alike_again : (r : Registers) (w u : Work) → u.acc ≡ w.acc → u.t ≡ w.t → u.p ≡ w.p → u.sxm ≡ w.sxm → RegistersAlike r w → RegistersAlike r u
alike_again r w u acc t p sxm h = record { acc = subst (AccAlike r.acc) (sym acc) h.acc; t = subst (IsAsKnown r.t) (sym t) h.t; p = subst (IsAsKnown r.p) (sym p) h.p; sxm = subst (IsAsKnown r.sxm) (sym sxm) h.sxm }

-- another accumulator, beside a machine whose T, P and SXM are those of before
module _ (r s : Registers) (u : Work) (t : IsAsKnown r.t u.t) (p : IsAsKnown r.p u.p) (sxm : IsAsKnown r.sxm u.sxm) where
  pub acc_set : (a : Acc) → AccAlike a u.acc → Some (with_acc a r) ≡ Some s → RegistersAlike s u
  acc_set a h e = registers_are (with_acc a r) s u (record { acc = h; t = t; p = p; sxm = sxm }) e

  pub acc_made : (a : Option Acc) → ((c : Acc) → a ≡ Some c → AccAlike c u.acc) → acc_becomes a r ≡ Some s → RegistersAlike s u
  acc_made None h e = absurd cc
  acc_made (Some c) h e = acc_set c (h c refl) e

  pub by_t_made : (k : Option ℕ) (x : ℕ) → ((y : ℕ) → k ≡ Some y → AccAlike (scaled r.sxm x (y % 16)) u.acc) → scaled_by_t k x r ≡ Some s → RegistersAlike s u
  by_t_made None x h e = absurd cc
  by_t_made (Some y) x h e = acc_set (scaled r.sxm x (y % 16)) (h y refl) e

  pub product_made : (f : Acc → Acc → Option Acc) (k : Option ℕ) → ((y : ℕ) (c : Acc) → k ≡ Some y → f r.acc (exact y) ≡ Some c → AccAlike c u.acc) → with_product f k r ≡ Some s → RegistersAlike s u
  product_made f None h e = absurd cc
  product_made f (Some y) h e = acc_made (f r.acc (exact y)) (λ c made. h y c refl made) e

-- a part that is known is that of the machine
pub known_is : {A : Type 0} (k : Option A) (x y : A) → IsAsKnown k x → k ≡ Some y → x ≡ y
known_is None x y h e = absurd cc
known_is (Some z) x y h e = h ∙ (let is : z ≡ y = cc in is)

-- a product in P
pub product_set : (r s : Registers) (k : Option ℕ) (x : ℕ) (u : Work) (t : ℕ) → AccAlike r.acc u.acc → IsAsKnown r.t u.t → IsAsKnown r.sxm u.sxm → IsAsKnown k t → u.p ≡ product t (signed_of x) → multiplied k x r ≡ Some s → RegistersAlike s u
product_set r s None x u t acc same sxm known is e = absurd cc
product_set r s (Some y) x u t acc same sxm known is e = registers_are (record r { p = Some (product y (signed_of x)) }) s u (record { acc = acc; t = same; p = is ∙ ap (λ i. product i (signed_of x)) known; sxm = sxm }) e

-- a word of 13 bits, and every other word, with its sign
negative_constant : (x : ℕ) → 32768 ≤ x → x < 65536 → pos x -ℤ pos 65536 ≡ negsuc (65535 - x)
negative_constant x le lt = omega (arith, ints)

constant_sign : (b : Bool) (x : ℕ) → nat_lt x 32768 ≡ b → x < 65536 → cond b (pos x) (negsuc (65535 - x)) ≡ cond b (pos x) (pos x -ℤ pos 65536)
constant_sign true x e lt = refl
constant_sign false x e lt = sym (negative_constant x (ltb-false x 32768 e) lt)

pub constant_signed : (x : ℕ) → x < 65536 → signed_constant x ≡ signed_of x
constant_signed x lt = constant_sign (nat_lt x 32768) x refl lt

module _ (r s : Registers) (w : Work) (range : InRange w) (h : RegistersAlike r w) where
  pub scaled_is : (x shift : ℕ) → AccAlike (scaled r.sxm x shift) (scaled_word w x shift)
  scaled_is x shift = scaled_alike r.sxm w.sxm x shift h.sxm

  -- with a word as SXM extends it
  pub scaled_made : (f : ℕ → ℕ → ℕ) → ByLowHalves f → (x shift : ℕ) (c : Acc) → combined f r.acc (scaled r.sxm x shift) ≡ Some c → AccAlike c (f w.acc (scaled_word w x shift))
  scaled_made f low x shift c e = combined_alike f low r.acc (scaled r.sxm x shift) c w.acc (scaled_word w x shift) range.acc (wrap32-lt _) h.acc (scaled_is x shift) e

  -- with 32 bits
  pub exact_made : (f : ℕ → ℕ → ℕ) → ByLowHalves f → (x y : ℕ) → x < 2 ^ 32 → x ≡ y → (c : Acc) → combined f r.acc (exact y) ≡ Some c → AccAlike c (f w.acc x)
  exact_made f low x y lt is c e = combined_alike f low r.acc (exact y) c w.acc x range.acc lt h.acc is e

  -- by the low four bits of T
  pub by_t_is : (x y : ℕ) → r.t ≡ Some y → AccAlike (scaled r.sxm x (y % 16)) (scaled_word w x (w.t % 16))
  by_t_is x y e = subst (λ i. AccAlike (scaled r.sxm x (i % 16)) (scaled_word w x (w.t % 16))) (known_is r.t w.t y h.t e) (scaled_is x (w.t % 16))
