-- Operations on two words leave their value, by what the operands are.
use Rattle.std.proofs.Common.{◌≡◌, ℕ, ◌+◌, ◌-◌, ◌*◌, ◌/◌, ◌%◌, ◌^◌, ◌<◌, ◌≤◌, Bool, true, false, Some, refl, sym, ap, ◌∙◌, subst, arith, ℤ, pos, negsuc, ◌+ℤ◌, ◌-ℤ◌, ◌*ℤ◌, int_lt, int_div, int_rem}
use Rattle.std.specs.Prelude.{⊤, ◌==◌, ◌||◌, if◌then◌else◌, bit_and, bit_or, bit_xor}
use Rattle.std.proofs.lemmas.Bool.{eqb-false}
use Rattle.std.proofs.lemmas.Nat.{and_comm, or_comm, xor_comm, or_lt, xor_lt, mod_below}
use native.Mathlib.Nat.{div-le_self}
use Rattle.word_base.specs.Words.{Calc, Good, Bad, signed_of, low16, fit, wrap, where_good, int_quotient}
use Rattle.word_base.specs.declared.outcome.UndefinedKind.TheVariants.{Overflow, DivideByZero}
use Rattle.acc_code.specs.declared.operand.AccOperand.{AccOperand}
use Rattle.acc_code.specs.declared.operand.HelperName.TheVariants as helper
use Rattle.acc_code.specs.AccTree.{ItemList}
use Rattle.acc_select.specs.acc_operations.Arithmetic.{with_place, with_constant, of_constant, of_place, high_with_place, high_with_constant}
use Rattle.acc_select.specs.acc_operations.Sums.{count_of}
use Rattle.acc_select.specs.acc_operations.Words.{high}
use Rattle.acc_select.specs.acc_operations.declared.constant.Constant.{Constant}
use Rattle.acc_select.specs.acc_operations.declared.constant.Constant.TheVariants.{Number, Address}
use Rattle.acc_select.specs.acc_operations.declared.found.Found.{Found}
use Rattle.acc_select.specs.acc_operations.declared.found.Found.TheVariants.{Loaded}
use Rattle.acc_select.specs.acc_operations.declared.high_half.HighHalf.{HighHalf}
use Rattle.acc_select.specs.acc_operations.declared.high_half.HighHalf.TheVariants.{Any, Zero, Sign, Small}
use Rattle.acc_select.specs.acc_operations.declared.operation.Arithmetic.{Arithmetic}
use Rattle.acc_select.specs.acc_operations.declared.operation.Arithmetic.TheVariants.{Sum, Difference, Bits, Product, LeftShift, RightShift, Quotient, Remainder}
use Rattle.acc_select.specs.acc_operations.declared.operation.Bitwise.{Bitwise}
use Rattle.acc_select.specs.acc_operations.declared.operation.Bitwise.TheVariants as bits
use Rattle.ir_semantics.specs.AccRows.{operand_weight}
use Rattle.ir_semantics.specs.AccRun.{Machine, Context, held}
use Rattle.acc_select_proof.proofs.Straights.{ConstantIs, FoundHas, found_weight, IsSteady, Straight, at_most}
use Rattle.acc_select_proof.proofs.Meant.{calc_of}
use Rattle.acc_select_proof.proofs.Arithmetics.{less_word, and-lt}
use Rattle.acc_select_proof.proofs.Following.{InAcc, IsFound}
use Rattle.acc_select_proof.proofs.Summing.{bits_of, added_place, less_place, place_less, bits_place, added_constant, less_constant, constant_less, bits_constant}
use Rattle.acc_select_proof.proofs.Helping.{helped_with_place, helped_of_place, helped_with_constant, helped_of_constant}
use Rattle.acc_select_proof.proofs.Shifting.{counted, shifted_with_place, shifted_of_place, shifted_of_constant, shifted_with_constant}
use Rattle.acc_select_proof.proofs.Multiplying.{multiplied_constant, multiplied_place, product_place}
use Rattle.acc_select_proof.proofs.Descending.{moved_down, down-lt, shifted_down_signed, shifted_down_plain}

pub good_is : (x y : ℕ) → Good x ≡ Good y → x ≡ y
good_is x y e = cc

-- values are words
low16-lt : (z : ℤ) → low16 z < 65536
low16-lt (pos n) = omega arith
low16-lt (negsuc n) = omega arith

same-lt : (w z : ℕ) → w < 65536 → Good w ≡ Good z → z < 65536
same-lt w z lt e = subst (λ i. i < 65536) (good_is w z e) lt

fit-lt : (a z : ℕ) (n : ℤ) (b : Bool) → (if b then Bad Overflow else Good (low16 n)) ≡ Good z → z < 65536
fit-lt a z n true e = absurd cc
fit-lt a z n false e = same-lt (low16 n) z (low16-lt n) e

unless-lt : (z : ℕ) (c : Calc) (b : Bool) → (b ≡ false → c ≡ Good z → z < 65536) → (if b then Bad DivideByZero else c) ≡ Good z → z < 65536
unless-lt z c true f e = absurd cc
unless-lt z c false f e = f refl e

where-lt : (z : ℕ) (c : Calc) (n : ℤ) → where_good c (wrap n) ≡ Good z → z < 65536
where-lt z (Good w) n e = same-lt (low16 n) z (low16-lt n) e
where-lt z (Bad kind) n e = absurd cc

pub calc-lt : (o : Arithmetic) (x y z : ℕ) → x < 65536 → y < 65536 → calc_of o x y ≡ Good z → z < 65536
calc-lt Sum x y z lx ly g = same-lt (low16 (pos x +ℤ pos y)) z (low16-lt (pos x +ℤ pos y)) g
calc-lt Difference x y z lx ly g = same-lt (low16 (pos x -ℤ pos y)) z (low16-lt (pos x -ℤ pos y)) g
calc-lt (Bits bits.And) x y z lx ly g = same-lt (bit_and x y) z (and-lt x y lx) g
calc-lt (Bits bits.Or) x y z lx ly g = same-lt (bit_or x y) z (or_lt 16 x y lx ly) g
calc-lt (Bits bits.Xor) x y z lx ly g = same-lt (bit_xor x y) z (xor_lt 16 x y lx ly) g
calc-lt Product x y z lx ly g = same-lt (low16 (pos x *ℤ pos y)) z (low16-lt (pos x *ℤ pos y)) g
calc-lt LeftShift x y z lx ly g = let k = counted y (x * 2 ^ y % 65536) z g in subst (λ i. i < 65536) k.1 (omega arith)
calc-lt (RightShift true) x y z lx ly g = let k = counted y (moved_down x y) z g in subst (λ i. i < 65536) k.1 (down-lt x y lx)
calc-lt (RightShift false) x y z lx ly g = let k = counted y (x / 2 ^ y) z g in subst (λ i. i < 65536) k.1 (let le = div-le_self x (2 ^ y) in omega (arith, le, lx))
calc-lt (Quotient true) x y z lx ly g = unless-lt z (fit (int_div (signed_of x) (signed_of y))) (y == 0) (λ p q. fit-lt 0 z (int_div (signed_of x) (signed_of y)) (int_lt (int_div (signed_of x) (signed_of y)) (negsuc 32767) || int_lt (pos 32767) (int_div (signed_of x) (signed_of y))) q) g
calc-lt (Quotient false) x y z lx ly g = unless-lt z (Good (x / y)) (y == 0) (λ p q. same-lt (x / y) z (let le = div-le_self x y in omega (arith, le, lx)) q) g
calc-lt (Remainder true) x y z lx ly g = where-lt z (int_quotient x y) (int_rem (signed_of x) (signed_of y)) g
calc-lt (Remainder false) x y z lx ly g = unless-lt z (Good (x % y)) (y == 0) (λ p q. same-lt (x % y) z (let ne = eqb-false y 0 p in let positive : 0 < y = omega (arith, ne) in let below = mod_below x y positive in omega (arith, below, ly)) q) g

bits_good : (o : Bitwise) (x y z : ℕ) → calc_of (Bits o) x y ≡ Good z → bits_of o x y ≡ z
bits_good bits.And x y z g = good_is (bit_and x y) z g
bits_good bits.Or x y z g = good_is (bit_or x y) z g
bits_good bits.Xor x y z g = good_is (bit_xor x y) z g

bits_turned : (o : Bitwise) (x y : ℕ) → bits_of o y x ≡ bits_of o x y
bits_turned bits.And x y = and_comm y x
bits_turned bits.Or x y = or_comm y x
bits_turned bits.Xor x y = xor_comm y x

-- an address is no count of a shift
abbrev pub IsNoCount : Constant → ℕ → Type 0
IsNoCount (Number w) y = ⊤
IsNoCount (Address o n) y = 16 ≤ y

module _ (c : Context) where
  -- where the word of an operation is found, it is this
  abbrev pub Finds : Found → ℕ → Machine → Type 0
  Finds f z u = FoundHas c.at f z u × IsFound f u

  in_acc_finds : (h : HighHalf) (z : ℕ) (u : Machine) → InAcc h z u.registers.acc → Finds (Loaded h) z u
  in_acc_finds Any z u i = (i.has, i.wide)
  in_acc_finds Zero z u i = (i.has, tt)
  in_acc_finds Sign z u i = (i.has, tt)
  in_acc_finds Small z u i = (i.has, tt)

  leaves : (xs : ItemList) (v : Machine) (k w z : ℕ) (h : HighHalf) → w ≡ z → Straight c xs v k (λ u. InAcc h w u.registers.acc) → Straight c xs v k (Finds (Loaded h) z)
  leaves xs v k w z h e s = at_most c xs v k k (λ u. InAcc h w u.registers.acc) (Finds (Loaded h) z) (omega arith) (λ u i. in_acc_finds h z u (subst (λ j. InAcc h j u.registers.acc) e i)) s

  count_is : (k : Constant) (y : ℕ) → ConstantIs c.at k y → IsNoCount k y → y < 16 → count_of k ≡ y
  count_is (Number w) y e far few = omega (arith, e, few)
  count_is (Address o n) y e far few = absurd (omega (arith, far, few))

  module _ (f : Found) (x y z : ℕ) (v : Machine) (w : IsFound f v) (s : v.registers.sxm ≡ Some true) (lx : x < 65536) (ly : y < 65536) where
    module _ (m : AccOperand) (steady : IsSteady m) where
      -- the right word is that of a place
      place_leaves : (o : Arithmetic) → FoundHas c.at f x v → held c.at m v ≡ Some y → calc_of o x y ≡ Good z → Straight c (with_place o f m).items v (found_weight f + (operand_weight m + 12)) (Finds (with_place o f m).found z)
      place_leaves Sum e is g = leaves (with_place Sum f m).items v (found_weight f + (operand_weight m + 12)) ((x + y) % 65536) z Any (good_is ((x + y) % 65536) z g) (added_place c f x y v e w s lx ly m steady is)
      place_leaves Difference e is g =
          leaves (with_place Difference f m).items v (found_weight f + (operand_weight m + 12)) ((x + (65536 - y)) % 65536) z Any (sym (less_word x y lx ly) ∙ good_is (low16 (pos x -ℤ pos y)) z g) (less_place c f x y v e w s lx ly m steady is)
      place_leaves (Bits o) e is g = leaves (with_place (Bits o) f m).items v (found_weight f + (operand_weight m + 12)) (bits_of o x y) z (high_with_place o (high f)) (bits_good o x y z g) (bits_place c f x y v e w s lx ly m steady is o)
      place_leaves Product e is g = leaves (with_place Product f m).items v (found_weight f + (operand_weight m + 12)) (x * y % 65536) z Any (good_is (x * y % 65536) z g) (product_place c m steady y v is s ly f x e lx)
      place_leaves LeftShift e is g =
          let k = counted y (x * 2 ^ y % 65536) z g in
          leaves (with_place LeftShift f m).items v (found_weight f + (operand_weight m + 12)) (x * 2 ^ y % 65536) z Any k.1 (shifted_with_place c f v s w x y m steady e is lx k.0)
      place_leaves (RightShift true) e is g = leaves (with_place (RightShift true) f m).items v (found_weight f + (operand_weight m + 12)) z z Any refl (helped_with_place c helper.ShrInt f v s w x y z lx ly g m steady e is)
      place_leaves (RightShift false) e is g = leaves (with_place (RightShift false) f m).items v (found_weight f + (operand_weight m + 12)) z z Any refl (helped_with_place c helper.ShrUnsigned f v s w x y z lx ly g m steady e is)
      place_leaves (Quotient true) e is g = leaves (with_place (Quotient true) f m).items v (found_weight f + (operand_weight m + 12)) z z Any refl (helped_with_place c helper.DivInt f v s w x y z lx ly g m steady e is)
      place_leaves (Quotient false) e is g = leaves (with_place (Quotient false) f m).items v (found_weight f + (operand_weight m + 12)) z z Any refl (helped_with_place c helper.DivUnsigned f v s w x y z lx ly g m steady e is)
      place_leaves (Remainder true) e is g = leaves (with_place (Remainder true) f m).items v (found_weight f + (operand_weight m + 12)) z z Any refl (helped_with_place c helper.RemInt f v s w x y z lx ly g m steady e is)
      place_leaves (Remainder false) e is g = leaves (with_place (Remainder false) f m).items v (found_weight f + (operand_weight m + 12)) z z Any refl (helped_with_place c helper.RemUnsigned f v s w x y z lx ly g m steady e is)

      -- the left word is that of a place
      of_place_leaves : (o : Arithmetic) → held c.at m v ≡ Some x → FoundHas c.at f y v → calc_of o x y ≡ Good z → Straight c (of_place o m f).items v (found_weight f + (operand_weight m + 12)) (Finds (of_place o m f).found z)
      of_place_leaves Sum is e g =
          let turned : (y + x) % 65536 ≡ (x + y) % 65536 = omega arith in
          leaves (of_place Sum m f).items v (found_weight f + (operand_weight m + 12)) ((y + x) % 65536) z Any (turned ∙ good_is ((x + y) % 65536) z g) (added_place c f y x v e w s ly lx m steady is)
      of_place_leaves Difference is e g =
          let turned : (65536 - (y + (65536 - x)) % 65536) % 65536 ≡ (x + (65536 - y)) % 65536 = omega (arith, lx, ly) in
          leaves (of_place Difference m f).items v (found_weight f + (operand_weight m + 12)) ((65536 - (y + (65536 - x)) % 65536) % 65536) z Any (turned ∙ sym (less_word x y lx ly) ∙ good_is (low16 (pos x -ℤ pos y)) z g) (place_less c f y x v e w s ly lx m steady is)
      of_place_leaves (Bits o) is e g = leaves (of_place (Bits o) m f).items v (found_weight f + (operand_weight m + 12)) (bits_of o y x) z (high_with_place o (high f)) (bits_turned o x y ∙ bits_good o x y z g) (bits_place c f y x v e w s ly lx m steady is o)
      of_place_leaves Product is e g =
          let turned : y * x % 65536 ≡ x * y % 65536 = omega arith in
          leaves (of_place Product m f).items v (found_weight f + (operand_weight m + 12)) (y * x % 65536) z Any (turned ∙ good_is (x * y % 65536) z g) (multiplied_place c m steady x v is s lx f y e ly)
      of_place_leaves LeftShift is e g =
          let k = counted y (x * 2 ^ y % 65536) z g in
          leaves (of_place LeftShift m f).items v (found_weight f + (operand_weight m + 12)) (x * 2 ^ y % 65536) z Any k.1 (shifted_of_place c f v s w x y m steady e is lx k.0)
      of_place_leaves (RightShift true) is e g = leaves (of_place (RightShift true) m f).items v (found_weight f + (operand_weight m + 12)) z z Any refl (helped_of_place c helper.ShrInt f v s w x y z lx ly g m steady e is)
      of_place_leaves (RightShift false) is e g = leaves (of_place (RightShift false) m f).items v (found_weight f + (operand_weight m + 12)) z z Any refl (helped_of_place c helper.ShrUnsigned f v s w x y z lx ly g m steady e is)
      of_place_leaves (Quotient true) is e g = leaves (of_place (Quotient true) m f).items v (found_weight f + (operand_weight m + 12)) z z Any refl (helped_of_place c helper.DivInt f v s w x y z lx ly g m steady e is)
      of_place_leaves (Quotient false) is e g = leaves (of_place (Quotient false) m f).items v (found_weight f + (operand_weight m + 12)) z z Any refl (helped_of_place c helper.DivUnsigned f v s w x y z lx ly g m steady e is)
      of_place_leaves (Remainder true) is e g = leaves (of_place (Remainder true) m f).items v (found_weight f + (operand_weight m + 12)) z z Any refl (helped_of_place c helper.RemInt f v s w x y z lx ly g m steady e is)
      of_place_leaves (Remainder false) is e g = leaves (of_place (Remainder false) m f).items v (found_weight f + (operand_weight m + 12)) z z Any refl (helped_of_place c helper.RemUnsigned f v s w x y z lx ly g m steady e is)

    -- the right word is a constant
    constant_leaves : (o : Arithmetic) (k : Constant) → FoundHas c.at f x v → ConstantIs c.at k y → IsNoCount k y → calc_of o x y ≡ Good z → Straight c (with_constant o f k).items v (found_weight f + 17) (Finds (with_constant o f k).found z)
    constant_leaves Sum k e is far g = leaves (with_constant Sum f k).items v (found_weight f + 17) ((x + y) % 65536) z Any (good_is ((x + y) % 65536) z g) (added_constant c f x y v e w s lx ly k is)
    constant_leaves Difference k e is far g =
        leaves (with_constant Difference f k).items v (found_weight f + 17) ((x + (65536 - y)) % 65536) z Any (sym (less_word x y lx ly) ∙ good_is (low16 (pos x -ℤ pos y)) z g) (less_constant c f x y v e w s lx ly k is)
    constant_leaves (Bits o) k e is far g = leaves (with_constant (Bits o) f k).items v (found_weight f + 17) (bits_of o x y) z (high_with_constant o k (high f)) (bits_good o x y z g) (bits_constant c f x y v e w s lx ly k is o)
    constant_leaves Product k e is far g = leaves (with_constant Product f k).items v (found_weight f + 17) (x * y % 65536) z Any (good_is (x * y % 65536) z g) (multiplied_constant c f k x y v e is s lx ly)
    constant_leaves LeftShift k e is far g =
        let q = counted y (x * 2 ^ y % 65536) z g in
        leaves (with_constant LeftShift f k).items v (found_weight f + 17) (x * 2 ^ count_of k % 65536) z Any (ap (λ i. x * 2 ^ i % 65536) (count_is k y is far q.0) ∙ q.1) (shifted_with_constant c f v x (count_of k) s w e lx)
    constant_leaves (RightShift true) k e is far g =
        let q = counted y (moved_down x y) z g in
        let same = count_is k y is far q.0 in
        leaves (with_constant (RightShift true) f k).items v (found_weight f + 17) (moved_down x (count_of k)) z Sign (ap (moved_down x) same ∙ q.1) (shifted_down_signed c x (count_of k) v s lx (let few = q.0 in omega (arith, same, few)) f e w)
    constant_leaves (RightShift false) k e is far g =
        let q = counted y (x / 2 ^ y) z g in
        let same = count_is k y is far q.0 in
        leaves (with_constant (RightShift false) f k).items v (found_weight f + 17) (x / 2 ^ count_of k) z (if count_of k == 0 then Zero else Small) (ap (λ i. x / 2 ^ i) same ∙ q.1) (shifted_down_plain c x (count_of k) v s lx (let few = q.0 in omega (arith, same, few)) f e w)
    constant_leaves (Quotient true) k e is far g = leaves (with_constant (Quotient true) f k).items v (found_weight f + 17) z z Any refl (helped_with_constant c helper.DivInt f v s w x y z lx ly g k e is)
    constant_leaves (Quotient false) k e is far g = leaves (with_constant (Quotient false) f k).items v (found_weight f + 17) z z Any refl (helped_with_constant c helper.DivUnsigned f v s w x y z lx ly g k e is)
    constant_leaves (Remainder true) k e is far g = leaves (with_constant (Remainder true) f k).items v (found_weight f + 17) z z Any refl (helped_with_constant c helper.RemInt f v s w x y z lx ly g k e is)
    constant_leaves (Remainder false) k e is far g = leaves (with_constant (Remainder false) f k).items v (found_weight f + 17) z z Any refl (helped_with_constant c helper.RemUnsigned f v s w x y z lx ly g k e is)

    -- the left word is a constant
    of_constant_leaves : (o : Arithmetic) (k : Constant) → ConstantIs c.at k x → FoundHas c.at f y v → calc_of o x y ≡ Good z → Straight c (of_constant o k f).items v (found_weight f + 17) (Finds (of_constant o k f).found z)
    of_constant_leaves Sum k is e g =
        let turned : (y + x) % 65536 ≡ (x + y) % 65536 = omega arith in
        leaves (of_constant Sum k f).items v (found_weight f + 17) ((y + x) % 65536) z Any (turned ∙ good_is ((x + y) % 65536) z g) (added_constant c f y x v e w s ly lx k is)
    of_constant_leaves Difference k is e g =
        let turned : ((65536 - y) % 65536 + x) % 65536 ≡ (x + (65536 - y)) % 65536 = omega (arith, lx, ly) in
        leaves (of_constant Difference k f).items v (found_weight f + 17) (((65536 - y) % 65536 + x) % 65536) z Any (turned ∙ sym (less_word x y lx ly) ∙ good_is (low16 (pos x -ℤ pos y)) z g) (constant_less c f y x v e w s ly lx k is)
    of_constant_leaves (Bits o) k is e g = leaves (of_constant (Bits o) k f).items v (found_weight f + 17) (bits_of o y x) z (high_with_constant o k (high f)) (bits_turned o x y ∙ bits_good o x y z g) (bits_constant c f y x v e w s ly lx k is o)
    of_constant_leaves Product k is e g =
        let turned : y * x % 65536 ≡ x * y % 65536 = omega arith in
        leaves (of_constant Product k f).items v (found_weight f + 17) (y * x % 65536) z Any (turned ∙ good_is (x * y % 65536) z g) (multiplied_constant c f k y x v e is s ly lx)
    of_constant_leaves LeftShift k is e g =
        let q = counted y (x * 2 ^ y % 65536) z g in
        leaves (of_constant LeftShift k f).items v (found_weight f + 17) (x * 2 ^ y % 65536) z Any q.1 (shifted_of_constant c f v s w x y k e is lx q.0)
    of_constant_leaves (RightShift true) k is e g = leaves (of_constant (RightShift true) k f).items v (found_weight f + 17) z z Any refl (helped_of_constant c helper.ShrInt f v s w x y z lx ly g k e is)
    of_constant_leaves (RightShift false) k is e g = leaves (of_constant (RightShift false) k f).items v (found_weight f + 17) z z Any refl (helped_of_constant c helper.ShrUnsigned f v s w x y z lx ly g k e is)
    of_constant_leaves (Quotient true) k is e g = leaves (of_constant (Quotient true) k f).items v (found_weight f + 17) z z Any refl (helped_of_constant c helper.DivInt f v s w x y z lx ly g k e is)
    of_constant_leaves (Quotient false) k is e g = leaves (of_constant (Quotient false) k f).items v (found_weight f + 17) z z Any refl (helped_of_constant c helper.DivUnsigned f v s w x y z lx ly g k e is)
    of_constant_leaves (Remainder true) k is e g = leaves (of_constant (Remainder true) k f).items v (found_weight f + 17) z z Any refl (helped_of_constant c helper.RemInt f v s w x y z lx ly g k e is)
    of_constant_leaves (Remainder false) k is e g = leaves (of_constant (Remainder false) k f).items v (found_weight f + 17) z z Any refl (helped_of_constant c helper.RemUnsigned f v s w x y z lx ly g k e is)

  -- operations on two words, by where the left one and the right one are
  pub with_place_keeps : (o : Arithmetic) (f : Found) (m : AccOperand) (x y z : ℕ) (v : Machine) → IsSteady m → FoundHas c.at f x v → IsFound f v → held c.at m v ≡ Some y → v.registers.sxm ≡ Some true → x < 65536 → y < 65536 → calc_of o x y ≡ Good z
      → Straight c (with_place o f m).items v (found_weight f + (operand_weight m + 12)) (Finds (with_place o f m).found z) × (z < 65536)
  with_place_keeps o f m x y z v steady e w is s lx ly g = (place_leaves f x y z v w s lx ly m steady o e is g, calc-lt o x y z lx ly g)

  pub with_constant_keeps : (o : Arithmetic) (f : Found) (k : Constant) (x y z : ℕ) (v : Machine) → FoundHas c.at f x v → IsFound f v → ConstantIs c.at k y → IsNoCount k y → v.registers.sxm ≡ Some true → x < 65536 → y < 65536 → calc_of o x y ≡ Good z
      → Straight c (with_constant o f k).items v (found_weight f + 17) (Finds (with_constant o f k).found z) × (z < 65536)
  with_constant_keeps o f k x y z v e w is far s lx ly g = (constant_leaves f x y z v w s lx ly o k e is far g, calc-lt o x y z lx ly g)

  pub of_constant_keeps : (o : Arithmetic) (k : Constant) (f : Found) (x y z : ℕ) (v : Machine) → ConstantIs c.at k x → FoundHas c.at f y v → IsFound f v → v.registers.sxm ≡ Some true → x < 65536 → y < 65536 → calc_of o x y ≡ Good z
      → Straight c (of_constant o k f).items v (found_weight f + 17) (Finds (of_constant o k f).found z) × (z < 65536)
  of_constant_keeps o k f x y z v is e w s lx ly g = (of_constant_leaves f x y z v w s lx ly o k is e g, calc-lt o x y z lx ly g)

  pub of_place_keeps : (o : Arithmetic) (m : AccOperand) (f : Found) (x y z : ℕ) (v : Machine) → IsSteady m → held c.at m v ≡ Some x → FoundHas c.at f y v → IsFound f v → v.registers.sxm ≡ Some true → x < 65536 → y < 65536 → calc_of o x y ≡ Good z
      → Straight c (of_place o m f).items v (found_weight f + (operand_weight m + 12)) (Finds (of_place o m f).found z) × (z < 65536)
  of_place_keeps o m f x y z v steady is e w s lx ly g = (of_place_leaves f x y z v w s lx ly m steady o is e g, calc-lt o x y z lx ly g)
