-- The items of an operation on usable words are usable.
use Rattle.std.proofs.Common.{ℕ, zero, suc, ◌-◌, Bool, true, false, arith}
use Rattle.std.specs.Prelude.{◌==◌, nat_lt}
use Rattle.acc_code.specs.AccTree.{Op, ItemList, end, ◌▸◌}
use Rattle.acc_code.specs.Operands.{has_13_bits}
use Rattle.acc_code.specs.declared.operand.AccOperand.{AccOperand}
use Rattle.acc_code.specs.declared.operand.HelperName.{HelperName}
use Rattle.acc_code.specs.declared.operation.AccOp.{AccOp}
use Rattle.acc_code.specs.declared.operation.AccOp.TheVariants as row
use Rattle.acc_select.specs.acc_operations.Arithmetic.{row_on_constant, on_bits_of_place, on_bits_of_constant, times, multiply, product_with_place, helped, with_place, shifted_right, with_constant, helped_behind, of_constant, of_place, shift_helper, division_helper, remainder_helper}
use Rattle.acc_select.specs.acc_operations.Constants.{load_constant, negative}
use Rattle.acc_select.specs.acc_operations.Sums.{by_constant, plus, minus, repeated, count_of, moved_left, shift_left, moved_right, moved_right_signed, shift_right_signed, shift_right_unsigned, by_helper}
use Rattle.acc_select.specs.acc_operations.Words.{scratch, lac, bare, store}
use Rattle.acc_select.specs.acc_operations.declared.constant.Constant.{Constant}
use Rattle.acc_select.specs.acc_operations.declared.constant.Constant.TheVariants.{Number, Address}
use Rattle.acc_select.specs.acc_operations.declared.found.Found.{Found}
use Rattle.acc_select.specs.acc_operations.declared.found.Found.TheVariants.{Fixed, Held, Loaded}
use Rattle.acc_select.specs.acc_operations.declared.operation.Arithmetic.{Arithmetic}
use Rattle.acc_select.specs.acc_operations.declared.operation.Arithmetic.TheVariants.{Sum, Difference, Bits, Product, LeftShift, RightShift, Quotient, Remainder}
use Rattle.acc_select.specs.acc_operations.declared.operation.Bitwise.{Bitwise}
use Rattle.emit_proof.specs.Addressed.{IsWordOperand}
use Rattle.image_proof.proofs.Usables.{Usable, nothing, plain, on_number, on_address, on_scratch, on_first, on_place, both, either, routine}
use Rattle.image_proof.proofs.UsableWords.{IsWordConstant, IsWordFound, UsableWord, calculated, negative_word, constant_first, on_constant, load_usable, store_usable, load_t_usable, load_signed_usable, load_unsigned_usable}

-- a word that waits in a scratch word
pub kept_first : (f : Found) → IsWordFound f → Usable (store (scratch 0) f)
kept_first f is = store_usable (scratch 0) f (omega arith) is

kept_second : (f : Found) → IsWordFound f → Usable (store (scratch 1) f)
kept_second f is = store_usable (scratch 1) f (omega arith) is

on_second : {o : AccOp} {xs : ItemList} → Usable xs → Usable (Op o (scratch 1) ▸ xs)
on_second h = on_scratch (omega arith) h

-- sums and shifts
by_constant_usable : (small opposite any : AccOp) (k : Constant) → IsWordConstant k → Usable (by_constant small opposite any k)
by_constant_usable small opposite any (Address v n) is = on_address nothing
by_constant_usable small opposite any (Number w) is =
    either (w == 0) nothing (either (nat_lt w 256) (on_number is nothing) (either (nat_lt (negative w) 256) (on_number (negative_word w) nothing) (on_number is nothing)))

plus_usable : (k : Constant) → IsWordConstant k → Usable (plus k)
plus_usable k is = by_constant_usable row.Addk row.Subk (row.Adlk 0) k is

pub minus_usable : (k : Constant) → IsWordConstant k → Usable (minus k)
minus_usable k is = by_constant_usable row.Subk row.Addk (row.Sblk 0) k is

repeated_usable : (n : ℕ) (o : AccOp) → Usable (repeated n (bare o))
repeated_usable zero o = nothing
repeated_usable (suc n) o = plain (repeated_usable n o)

moved_left_usable : (f : Found) (n : ℕ) → IsWordFound f → Usable (moved_left f n)
moved_left_usable f n is = either (nat_lt n 4) (both (load_usable f is) (repeated_usable n row.Sfl)) (both (kept_first f is) (on_first nothing))

shift_left_usable : (f : Found) (n : ℕ) → IsWordFound f → Usable (shift_left f n)
shift_left_usable (Fixed k) n is = moved_left_usable (Fixed k) n is
shift_left_usable (Held m) n is = on_place is nothing
shift_left_usable (Loaded h) n is = moved_left_usable (Loaded h) n is

moved_right_usable : (o : AccOp) (n : ℕ) → Usable (moved_right (Op o (scratch 0)) n)
moved_right_usable o n =
    either (nat_lt n 6) (repeated_usable n row.Sfr) (either (nat_lt n 9) (both (repeated_usable (9 - n) row.Sfl) (on_first (on_first nothing))) (on_first (on_first nothing)))

moved_right_signed_usable : (f : Found) (n : ℕ) → IsWordFound f → Usable (moved_right_signed f n)
moved_right_signed_usable f n is = both (load_signed_usable f is) (moved_right_usable (row.Lac 0) n)

shift_right_signed_usable : (f : Found) (n : ℕ) → IsWordFound f → Usable (shift_right_signed f n)
shift_right_signed_usable (Fixed k) n is = moved_right_signed_usable (Fixed k) n is
shift_right_signed_usable (Held m) n is = either (nat_lt n 3) (moved_right_signed_usable (Held m) n is) (on_place is (on_first (on_first nothing)))
shift_right_signed_usable (Loaded h) n is = moved_right_signed_usable (Loaded h) n is

shift_right_unsigned_usable : (f : Found) (n : ℕ) → IsWordFound f → Usable (shift_right_unsigned f n)
shift_right_unsigned_usable f n is = both (load_unsigned_usable f is) (moved_right_usable row.Zals n)

helper_usable : (name : HelperName) → Usable (by_helper name)
helper_usable name = routine (plain nothing)

-- products
product_usable : Usable (Op row.Mpy (scratch 0) ▸ bare row.Pac ▸ end)
product_usable = on_first (plain nothing)

times_usable : (k : Constant) → IsWordConstant k → Usable (times k)
times_usable (Number w) is = either (has_13_bits w) (on_number is (plain nothing)) (constant_first (Number w) is (on_first product_usable))
times_usable (Address v n) is = constant_first (Address v n) is (on_first product_usable)

multiply_usable : (f : Found) (m : AccOperand) → IsWordFound f → IsWordOperand m → Usable (multiply f m)
multiply_usable f m is there = both (load_t_usable f is) (on_place there (plain nothing))

product_with_usable : (f : Found) (m : AccOperand) → IsWordFound f → IsWordOperand m → Usable (product_with_place f m)
product_with_usable (Fixed (Number w)) m is there = either (has_13_bits w) (on_place there (times_usable (Number w) is)) (multiply_usable (Fixed (Number w)) m is there)
product_with_usable f m is there = multiply_usable f m is there

-- operations by a routine
with_word : (name : HelperName) (f : Found) (m : AccOperand) → IsWordFound f → IsWordOperand m → UsableWord (helped name f (lac m))
with_word name f m is there = calculated (both (kept_first f is) (on_place there (on_second (helper_usable name))))

with_number : (name : HelperName) (f : Found) (k : Constant) → IsWordFound f → IsWordConstant k → UsableWord (helped name f (load_constant k))
with_number name f k is word = calculated (both (kept_first f is) (constant_first k word (on_second (helper_usable name))))

behind_word : (name : HelperName) (f : Found) (m : AccOperand) → IsWordFound f → IsWordOperand m → UsableWord (helped_behind name f (lac m))
behind_word name f m is there = calculated (both (kept_second f is) (on_place there (on_first (helper_usable name))))

behind_number : (name : HelperName) (f : Found) (k : Constant) → IsWordFound f → IsWordConstant k → UsableWord (helped_behind name f (load_constant k))
behind_number name f k is word = calculated (both (kept_second f is) (constant_first k word (on_first (helper_usable name))))

-- operations on bits
bits_of_place : (o : Bitwise) (f : Found) (m : AccOperand) → IsWordFound f → IsWordOperand m → UsableWord (on_bits_of_place o f m)
bits_of_place o f m is there = calculated (both (load_usable f is) (on_place there nothing))

bits_of_constant : (o : Bitwise) (f : Found) (k : Constant) → IsWordFound f → IsWordConstant k → UsableWord (on_bits_of_constant o f k)
bits_of_constant o f k is word = calculated (both (load_usable f is) (on_constant (row_on_constant o) k word nothing))

-- operations
pub with_place_usable : (o : Arithmetic) (f : Found) (m : AccOperand) → IsWordFound f → IsWordOperand m → UsableWord (with_place o f m)
with_place_usable Sum f m is there = calculated (both (load_usable f is) (on_place there nothing))
with_place_usable Difference f m is there = calculated (both (load_usable f is) (on_place there nothing))
with_place_usable (Bits o) f m is there = bits_of_place o f m is there
with_place_usable Product f m is there = calculated (product_with_usable f m is there)
with_place_usable LeftShift f m is there = calculated (both (kept_first f is) (on_place there (on_first nothing)))
with_place_usable (RightShift signed) f m is there = with_word (shift_helper signed) f m is there
with_place_usable (Quotient signed) f m is there = with_word (division_helper signed) f m is there
with_place_usable (Remainder signed) f m is there = with_word (remainder_helper signed) f m is there

shifted_right_usable : (signed : Bool) (f : Found) (n : ℕ) → IsWordFound f → UsableWord (shifted_right signed f n)
shifted_right_usable true f n is = calculated (shift_right_signed_usable f n is)
shifted_right_usable false f n is = calculated (shift_right_unsigned_usable f n is)

pub with_constant_usable : (o : Arithmetic) (f : Found) (k : Constant) → IsWordFound f → IsWordConstant k → UsableWord (with_constant o f k)
with_constant_usable Sum f k is word = calculated (both (load_usable f is) (plus_usable k word))
with_constant_usable Difference f k is word = calculated (both (load_usable f is) (minus_usable k word))
with_constant_usable (Bits o) f k is word = bits_of_constant o f k is word
with_constant_usable Product f k is word = calculated (both (load_t_usable f is) (times_usable k word))
with_constant_usable LeftShift f k is word = calculated (shift_left_usable f (count_of k) is)
with_constant_usable (RightShift signed) f k is word = shifted_right_usable signed f (count_of k) is
with_constant_usable (Quotient signed) f k is word = with_number (division_helper signed) f k is word
with_constant_usable (Remainder signed) f k is word = with_number (remainder_helper signed) f k is word

pub of_constant_usable : (o : Arithmetic) (k : Constant) (f : Found) → IsWordConstant k → IsWordFound f → UsableWord (of_constant o k f)
of_constant_usable Sum k f word is = calculated (both (load_usable f is) (plus_usable k word))
of_constant_usable Difference k f word is = calculated (both (load_usable f is) (plain (plus_usable k word)))
of_constant_usable (Bits o) k f word is = bits_of_constant o f k is word
of_constant_usable Product k f word is = calculated (both (load_t_usable f is) (times_usable k word))
of_constant_usable LeftShift k f word is = calculated (both (kept_first f is) (on_first (constant_first k word (on_first (on_first nothing)))))
of_constant_usable (RightShift signed) k f word is = behind_number (shift_helper signed) f k is word
of_constant_usable (Quotient signed) k f word is = behind_number (division_helper signed) f k is word
of_constant_usable (Remainder signed) k f word is = behind_number (remainder_helper signed) f k is word

pub of_place_usable : (o : Arithmetic) (m : AccOperand) (f : Found) → IsWordOperand m → IsWordFound f → UsableWord (of_place o m f)
of_place_usable Sum m f there is = calculated (both (load_usable f is) (on_place there nothing))
of_place_usable Difference m f there is = calculated (both (load_usable f is) (on_place there (plain nothing)))
of_place_usable (Bits o) m f there is = bits_of_place o f m is there
of_place_usable Product m f there is = calculated (multiply_usable f m is there)
of_place_usable LeftShift m f there is = calculated (both (kept_first f is) (on_first (on_place there nothing)))
of_place_usable (RightShift signed) m f there is = behind_word (shift_helper signed) f m is there
of_place_usable (Quotient signed) m f there is = behind_word (division_helper signed) f m is there
of_place_usable (Remainder signed) m f there is = behind_word (remainder_helper signed) f m is there
