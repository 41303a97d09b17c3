-- The code of operations on two words, by hand.
use Rattle.std.proofs.Common.{◌≡◌, refl}
use Rattle.std.specs.Prelude.{true, false}
use Rattle.c_tree.specs.declared.program.VarRef.TheVariants.{Static}
use Rattle.acc_code.specs.declared.operand.AccOperand.{AccOperand}
use Rattle.acc_code.specs.declared.operand.AccOperand.TheVariants as operand
use Rattle.acc_code.specs.declared.operand.HelperName.TheVariants as helper
use Rattle.acc_code.specs.declared.operation.AccOp.TheVariants as row
use Rattle.acc_code.specs.declared.operation.Test.TheVariants as test
use Rattle.acc_code.specs.AccTree.{Op, Helper, end, ◌▸◌}
use Rattle.acc_operations.specs.Arithmetic.{with_place, with_constant, of_constant, of_place}
use Rattle.acc_operations.specs.Comparisons.{compared_with_place, compared_with_constant, compared_of_constant, compared_of_place}
use Rattle.acc_operations.specs.Sums.{plus, minus}
use Rattle.acc_operations.specs.Words.{scratch, lac, sacl, bare}
use Rattle.acc_operations.specs.declared.comparison.Comparison.{Comparison}
use Rattle.acc_operations.specs.declared.comparison.Order.{Order}
use Rattle.acc_operations.specs.declared.comparison.Order.TheVariants.{Exact, Signed, Unsigned}
use Rattle.acc_operations.specs.declared.constant.Constant.TheVariants.{Number, Address}
use Rattle.acc_operations.specs.declared.found.Found.TheVariants.{Fixed, Held, Loaded}
use Rattle.acc_operations.specs.declared.high_half.HighHalf.TheVariants.{Any, Zero, Sign, Small}
use Rattle.acc_operations.specs.declared.operation.Arithmetic.TheVariants.{Difference, Bits, Product, LeftShift, RightShift, Quotient}
use Rattle.acc_operations.specs.declared.operation.Bitwise.TheVariants as bits

-- x and y are scalars
abbrev x : AccOperand
x = operand.Scalar 0

abbrev y : AccOperand
y = operand.Scalar 1

abbrev less : Order → Comparison
less o = record { order = o; test = test.Lz }

abbrev equal : Comparison
equal = record { order = Exact; test = test.Z }

-- the ends of the ranges of a short row
one_word_more : plus (Number 255) ≡ Op row.Addk (operand.Number 255) ▸ end
one_word_more = refl

two_words_more : plus (Number 256) ≡ Op (row.Adlk 0) (operand.Number 256) ▸ end
two_words_more = refl

two_words_less : plus (Number 65280) ≡ Op (row.Adlk 0) (operand.Number 65280) ▸ end
two_words_less = refl

one_word_less : plus (Number 65281) ≡ Op row.Subk (operand.Number 255) ▸ end
one_word_less = refl

-- less -6
six_more : minus (Number 65530) ≡ Op row.Addk (operand.Number 6) ▸ end
six_more = refl

nothing_more : minus (Number 0) ≡ end
nothing_more = refl

-- 5 - (a computed word), and x - (a computed word)
five_less : (of_constant Difference (Number 5) (Loaded Any)).items ≡ bare row.Neg ▸ Op row.Addk (operand.Number 5) ▸ end
five_less = refl

place_less : (of_place Difference x (Loaded Any)).items ≡ Op (row.Sub 0) x ▸ bare row.Neg ▸ end
place_less = refl

-- a word & 255 is below 8000h; a word below 8000h | 8000h is not, and 0 stands above it
masked : (with_constant (Bits bits.And) (Loaded Any) (Number 255)).found ≡ Loaded Small
masked = refl

set : (with_constant (Bits bits.Or) (Loaded Small) (Number 32768)).found ≡ Loaded Zero
set = refl

-- y * 4095, y * 4096 and y * -4096: a constant of 13 bits has its row
short_product : (with_constant Product (Held y) (Number 4095)).items ≡ Op row.Lt y ▸ Op row.Mpyk (operand.Number 4095) ▸ bare row.Pac ▸ end
short_product = refl

long_product : (with_constant Product (Held y) (Number 4096)).items
    ≡ Op row.Lt y ▸ Op (row.Lalk 0) (operand.Number 4096) ▸ sacl (scratch 0) ▸ Op row.Mpy (scratch 0) ▸ bare row.Pac ▸ end
long_product = refl

negative_product : (with_place Product (Fixed (Number 61440)) y).items ≡ Op row.Lt y ▸ Op row.Mpyk (operand.Number 61440) ▸ bare row.Pac ▸ end
negative_product = refl

-- shifts to the left, by 3, by 4, and by another word
left_by_three : (with_constant LeftShift (Loaded Any) (Number 3)).items ≡ bare row.Sfl ▸ bare row.Sfl ▸ bare row.Sfl ▸ end
left_by_three = refl

left_by_four : (with_constant LeftShift (Loaded Any) (Number 4)).items ≡ sacl (scratch 0) ▸ Op (row.Lac 4) (scratch 0) ▸ end
left_by_four = refl

left_by_word : (with_place LeftShift (Held x) y).items ≡ lac x ▸ sacl (scratch 0) ▸ Op row.Lt y ▸ Op row.Lact (scratch 0) ▸ end
left_by_word = refl

-- shifts to the right: bits n to n + 15 of the accumulator, which for n = 7 are bits 9 to 24 two places further left
right_by_seven : (with_constant (RightShift false) (Loaded Any) (Number 7)).items
    ≡ Op row.Andk (operand.Number 65535) ▸ bare row.Sfl ▸ bare row.Sfl ▸ Op (row.Sach 7) (scratch 0) ▸ Op row.Zals (scratch 0) ▸ end
right_by_seven = refl

right_by_twelve : (with_constant (RightShift true) (Loaded Sign) (Number 12)).items ≡ Op (row.Sach 4) (scratch 0) ▸ lac (scratch 0) ▸ end
right_by_twelve = refl

held_right_by_three : (with_constant (RightShift true) (Held x) (Number 3)).items ≡ Op (row.Lac 13) x ▸ Op (row.Sach 0) (scratch 0) ▸ lac (scratch 0) ▸ end
held_right_by_three = refl

right_by_nothing : (with_constant (RightShift false) (Held x) (Number 0)).found ≡ Loaded Zero
right_by_nothing = refl

-- x / y, and 100 / (a computed word)
quotient : (with_place (Quotient true) (Held x) y).items
    ≡ lac x ▸ sacl (scratch 0) ▸ lac y ▸ sacl (scratch 1) ▸ Helper helper.DivInt ▸ bare row.Ssxm ▸ end
quotient = refl

quotient_behind : (of_constant (Quotient false) (Number 100) (Loaded Any)).items
    ≡ sacl (scratch 1) ▸ Op row.Lack (operand.Number 100) ▸ sacl (scratch 0) ▸ Helper helper.DivUnsigned ▸ bare row.Ssxm ▸ end
quotient_behind = refl

-- equality of a computed word: with 0 where nothing is known of the high half, and with 300 where it is 0
equal_to_zero : (compared_with_constant equal (Loaded Any) (Number 0)).items ≡ Op row.Andk (operand.Number 65535) ▸ end
equal_to_zero = refl

equal_to_number : (compared_with_constant equal (Loaded Zero) (Number 300)).items ≡ Op row.Xork (operand.Number 300) ▸ end
equal_to_number = refl

-- x < 40001 without a sign: 40001 is 2 * 20000 + 1
less_than_odd : (compared_with_constant (less Unsigned) (Held x) (Number 40001)).items
    ≡ lac x ▸ Op row.Andk (operand.Number 65535) ▸ Op (row.Sblk 1) (operand.Number 20000) ▸ Op row.Subk (operand.Number 1) ▸ end
less_than_odd = refl

-- x < &a[2]: the address less x is greater than 0
less_than_address : compared_with_constant (less Unsigned) (Held x) (Address (Static 1) 2)
    ≡ record { items = lac x ▸ sacl (scratch 0) ▸ Op (row.Lalk 0) (operand.Address (Static 1) 2) ▸ Op row.Andk (operand.Number 65535) ▸ Op row.Subs (scratch 0) ▸ end; test = test.Gz }
less_than_address = refl

-- 10 < x: x less 10 is greater than 0
greater_than_number : compared_of_constant (less Signed) (Number 10) (Held x) ≡ record { items = lac x ▸ Op row.Subk (operand.Number 10) ▸ end; test = test.Gz }
greater_than_number = refl

-- x < y without a sign
less_than_place : (compared_with_place (less Unsigned) (Held x) y).items ≡ lac x ▸ Op row.Andk (operand.Number 65535) ▸ Op row.Subs y ▸ end
less_than_place = refl

-- x < (a computed word), with a sign: of one with its sign, and of one whose high half isn't known
place_less_than : compared_of_place (less Signed) x (Loaded Sign) ≡ record { items = Op (row.Sub 0) x ▸ end; test = test.Gz }
place_less_than = refl

place_less_than_any : compared_of_place (less Signed) x (Loaded Any) ≡ record { items = sacl (scratch 0) ▸ lac x ▸ Op (row.Sub 0) (scratch 0) ▸ end; test = test.Lz }
place_less_than_any = refl
