-- Operations on two words that give a word, by what the operands are. In each the left operand's accesses come before the right one's.
use Rattle.std.specs.Prelude.{ℕ, ◌==◌, Bool, true, false, if◌then◌else◌, nat_lt}
use Rattle.acc_code.specs.Operands.{has_13_bits}
use Rattle.acc_code.specs.declared.operand.AccOperand.{AccOperand}
use Rattle.acc_code.specs.declared.operand.AccOperand.TheVariants as operand
use Rattle.acc_code.specs.declared.operand.HelperName.{HelperName}
use Rattle.acc_code.specs.declared.operand.HelperName.TheVariants as helper
use Rattle.acc_code.specs.declared.operation.AccOp.{AccOp}
use Rattle.acc_code.specs.declared.operation.AccOp.TheVariants as row
use Rattle.acc_code.specs.AccTree.{Item, Op, ItemList, end, ◌▸◌, ◌⧺◌}
use Rattle.acc_operations.specs.Constants.{constant_operand, load_constant}
use Rattle.acc_operations.specs.Words.{Word, in_accumulator, scratch, lac, sacl, bare, load, high, store, load_t}
use Rattle.acc_operations.specs.declared.found.Found.{Found}
use Rattle.acc_operations.specs.declared.found.Found.TheVariants.{Fixed}
use Rattle.acc_operations.specs.Sums.{plus, minus, count_of, shift_left, shift_right_signed, shift_right_unsigned, by_helper}
use Rattle.acc_operations.specs.declared.constant.Constant.{Constant}
use Rattle.acc_operations.specs.declared.constant.Constant.TheVariants.{Number, Address}
use Rattle.acc_operations.specs.declared.high_half.HighHalf.{HighHalf}
use Rattle.acc_operations.specs.declared.high_half.HighHalf.TheVariants.{Any, Zero, Sign, Small}
use Rattle.acc_operations.specs.declared.operation.Arithmetic.{Arithmetic}
use Rattle.acc_operations.specs.declared.operation.Arithmetic.TheVariants.{Sum, Difference, Bits, Product, LeftShift, RightShift, Quotient, Remainder}
use Rattle.acc_operations.specs.declared.operation.Bitwise.{Bitwise}
use Rattle.acc_operations.specs.declared.operation.Bitwise.TheVariants as bits

abbrev pub row_on_place : Bitwise → AccOp
row_on_place bits.And = row.And
row_on_place bits.Or = row.Or
row_on_place bits.Xor = row.Xor

abbrev pub row_on_constant : Bitwise → AccOp
row_on_constant bits.And = row.Andk
row_on_constant bits.Or = row.Ork
row_on_constant bits.Xor = row.Xork

-- a row that leaves the high half
abbrev pub kept_zero : HighHalf → HighHalf
kept_zero Any = Any
kept_zero Zero = Zero
kept_zero Sign = Any
kept_zero Small = Zero

-- what is known of the high half behind an operation on bits
abbrev pub high_with_place : Bitwise → HighHalf → HighHalf
high_with_place bits.And h = Zero
high_with_place bits.Or h = kept_zero h
high_with_place bits.Xor h = kept_zero h

abbrev pub masked_by : Constant → HighHalf
masked_by (Number w) = if nat_lt w 32768 then Small else Zero
masked_by (Address v n) = Zero

abbrev pub high_with_constant : Bitwise → Constant → HighHalf → HighHalf
high_with_constant bits.And k h = masked_by k
high_with_constant bits.Or k h = kept_zero h
high_with_constant bits.Xor k h = kept_zero h

abbrev pub on_bits_of_place : Bitwise → Found → AccOperand → Word
on_bits_of_place o f m = in_accumulator (load f ⧺ Op (row_on_place o) m ▸ end) (high_with_place o (high f))

abbrev pub on_bits_of_constant : Bitwise → Found → Constant → Word
on_bits_of_constant o f k = in_accumulator (load f ⧺ Op (row_on_constant o) (constant_operand k) ▸ end) (high_with_constant o k (high f))

-- T times a word of memory, and times a constant
abbrev pub times_place : AccOperand → ItemList
times_place m = Op row.Mpy m ▸ bare row.Pac ▸ end

abbrev pub times : Constant → ItemList
times (Number w) =
    if has_13_bits w then Op row.Mpyk (operand.Number w) ▸ bare row.Pac ▸ end
    else load_constant (Number w) ▸ sacl (scratch 0) ▸ times_place (scratch 0)
times (Address v n) = load_constant (Address v n) ▸ sacl (scratch 0) ▸ times_place (scratch 0)

-- a product with a word of memory: of a constant of 13 bits, or of another word
abbrev pub multiply : Found → AccOperand → ItemList
multiply f m = load_t f ⧺ times_place m

abbrev pub product_with_place : Found → AccOperand → ItemList
product_with_place (Fixed (Number w)) m =
    if has_13_bits w then Op row.Lt m ▸ times (Number w) else multiply (Fixed (Number w)) m
product_with_place f m = multiply f m

abbrev pub shift_helper : Bool → HelperName
shift_helper signed = if signed then helper.ShrInt else helper.ShrUnsigned

abbrev pub division_helper : Bool → HelperName
division_helper signed = if signed then helper.DivInt else helper.DivUnsigned

abbrev pub remainder_helper : Bool → HelperName
remainder_helper signed = if signed then helper.RemInt else helper.RemUnsigned

-- the left word and then the right one, which an item loads, to a routine
abbrev pub helped : HelperName → Found → Item → Word
helped name f load_right = in_accumulator (store (scratch 0) f ⧺ load_right ▸ sacl (scratch 1) ▸ by_helper name) Any

-- the right operand is the word of a name
abbrev pub with_place : Arithmetic → Found → AccOperand → Word
with_place Sum f m = in_accumulator (load f ⧺ Op (row.Add 0) m ▸ end) Any
with_place Difference f m = in_accumulator (load f ⧺ Op (row.Sub 0) m ▸ end) Any
with_place (Bits o) f m = on_bits_of_place o f m
with_place Product f m = in_accumulator (product_with_place f m) Any
with_place LeftShift f m = in_accumulator (store (scratch 0) f ⧺ Op row.Lt m ▸ Op row.Lact (scratch 0) ▸ end) Any
with_place (RightShift signed) f m = helped (shift_helper signed) f (lac m)
with_place (Quotient signed) f m = helped (division_helper signed) f (lac m)
with_place (Remainder signed) f m = helped (remainder_helper signed) f (lac m)

abbrev pub shifted_right : Bool → Found → ℕ → Word
shifted_right true f n = in_accumulator (shift_right_signed f n) Sign
shifted_right false f n = in_accumulator (shift_right_unsigned f n) (if n == 0 then Zero else Small)

-- the right operand is a constant
abbrev pub with_constant : Arithmetic → Found → Constant → Word
with_constant Sum f k = in_accumulator (load f ⧺ plus k) Any
with_constant Difference f k = in_accumulator (load f ⧺ minus k) Any
with_constant (Bits o) f k = on_bits_of_constant o f k
with_constant Product f k = in_accumulator (load_t f ⧺ times k) Any
with_constant LeftShift f k = in_accumulator (shift_left f (count_of k)) Any
with_constant (RightShift signed) f k = shifted_right signed f (count_of k)
with_constant (Quotient signed) f k = helped (division_helper signed) f (load_constant k)
with_constant (Remainder signed) f k = helped (remainder_helper signed) f (load_constant k)

-- a word that was computed behind a left operand goes to a routine, with that one
abbrev pub helped_behind : HelperName → Found → Item → Word
helped_behind name f load_left = in_accumulator (store (scratch 1) f ⧺ load_left ▸ sacl (scratch 0) ▸ by_helper name) Any

-- the left operand is a constant, and the right one was computed
abbrev pub of_constant : Arithmetic → Constant → Found → Word
of_constant Sum k f = in_accumulator (load f ⧺ plus k) Any
of_constant Difference k f = in_accumulator (load f ⧺ bare row.Neg ▸ plus k) Any
of_constant (Bits o) k f = on_bits_of_constant o f k
of_constant Product k f = in_accumulator (load_t f ⧺ times k) Any
of_constant LeftShift k f =
    in_accumulator (store (scratch 0) f ⧺ Op row.Lt (scratch 0) ▸ load_constant k ▸ sacl (scratch 0) ▸ Op row.Lact (scratch 0) ▸ end) Any
of_constant (RightShift signed) k f = helped_behind (shift_helper signed) f (load_constant k)
of_constant (Quotient signed) k f = helped_behind (division_helper signed) f (load_constant k)
of_constant (Remainder signed) k f = helped_behind (remainder_helper signed) f (load_constant k)

-- the left operand was stored to a place, and the right one was computed
abbrev pub of_place : Arithmetic → AccOperand → Found → Word
of_place Sum m f = in_accumulator (load f ⧺ Op (row.Add 0) m ▸ end) Any
of_place Difference m f = in_accumulator (load f ⧺ Op (row.Sub 0) m ▸ bare row.Neg ▸ end) Any
of_place (Bits o) m f = on_bits_of_place o f m
of_place Product m f = in_accumulator (multiply f m) Any
of_place LeftShift m f = in_accumulator (store (scratch 0) f ⧺ Op row.Lt (scratch 0) ▸ Op row.Lact m ▸ end) Any
of_place (RightShift signed) m f = helped_behind (shift_helper signed) f (lac m)
of_place (Quotient signed) m f = helped_behind (division_helper signed) f (lac m)
of_place (Remainder signed) m f = helped_behind (remainder_helper signed) f (lac m)
