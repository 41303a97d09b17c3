-- The code of each form and each edge, as a model of docs/TRANSLATION.md that was written apart from these definitions gives it.
use Rattle.std.proofs.Common.{◌≡◌, ℕ, refl}
use Rattle.std.specs.Prelude.{true, false, [], ◌∷◌, Some, None}
use Rattle.c_syntax.specs.declared.operator.UnaryOp.TheVariants.{Minus, Plus, Complement}
use Rattle.c_tree.specs.declared.program.Initial.TheVariants as initial
use Rattle.c_tree.specs.declared.program.VarRef.TheVariants.{Scalar, Static, Local}
use Rattle.tree_code.specs.declared.operator.WordOp.TheVariants as word
use Rattle.tree_code.specs.WordTree as tree
use Rattle.tree_code.specs.WordTree.{ExprCode, FormCode, Node, Named, At}
use Rattle.acc_code.specs.declared.item.CaseLabel.TheVariants.{Value, Default}
use Rattle.acc_code.specs.declared.operand.AccOperand.{AccOperand}
use Rattle.acc_code.specs.declared.operand.AccOperand.TheVariants as operand
use Rattle.acc_code.specs.declared.operand.HelperName.TheVariants as helper
use Rattle.acc_code.specs.declared.operation.AccOp.TheVariants as row
use Rattle.acc_code.specs.declared.operation.Test.TheVariants as test
use Rattle.acc_code.specs.Operands.{has_13_bits}
use Rattle.acc_code.specs.AccTree.{Op, If, Loop, Switch, Case, Clear, Call, Helper, Break, Continue, Return, end, ◌▸◌}
use Rattle.acc_operations.specs.Arithmetic.{with_place, with_constant, of_constant, of_place, high_with_place, masked_by}
use Rattle.acc_operations.specs.Comparisons.{compared_of_place, exactly_less, exactly_less_number, exactly_less_constant, exact_with, less_unsigned, items_with_place, items_with_constant}
use Rattle.acc_select.specs.Conditions.{Nothing, Breaks, Continues, Runs}
use Rattle.acc_operations.specs.Constants.{load_constant, constant_high, initial_constant}
use Rattle.acc_select.specs.Forms.{complement_high}
use Rattle.acc_operations.specs.Kinds.{comparison, operation_of, opposite, swapped}
use Rattle.acc_select.specs.Selected.{code_of, statement_items, cell_items, closed_main, selected_function}
use Rattle.acc_operations.specs.Sums.{plus, minus, count_of}
use Rattle.acc_operations.specs.Words.{loaded, load_signed, load_t, scratch, lac, sacl, bare}
use Rattle.acc_operations.specs.declared.comparison.Order.TheVariants.{Exact, Signed, Unsigned}
use Rattle.acc_operations.specs.declared.constant.Constant.TheVariants.{Number, Address}
use Rattle.acc_operations.specs.declared.found.Found.TheVariants.{Fixed, Held, Loaded}
use Rattle.acc_operations.specs.declared.high_half.HighHalf.TheVariants.{Any, Zero, Sign, Small}
use Rattle.acc_operations.specs.declared.operation.Arithmetic.TheVariants.{Sum, Difference, Product, LeftShift, RightShift, Remainder}
use Rattle.acc_operations.specs.declared.operation.Bitwise.TheVariants as bits
use Rattle.acc_operations.specs.declared.operation.Operation.TheVariants.{Word}

-- x, y and z are the scalars 0, 1 and 2, p is 3, and 4 is the first temporary
abbrev node : tree.FormCode → ExprCode
node form = Node form 0

abbrev read : ℕ → ExprCode
read n = node (tree.Read (Scalar n))

abbrev number : ℕ → ExprCode
number n = node (tree.Const n)

abbrev scalar : ℕ → AccOperand
scalar n = operand.Scalar n

-- constants and their edges
null_negative : loaded (code_of (node (tree.Unary Minus (number 0))) 4).word ≡ Op row.Lack (operand.Number 0) ▸ end
null_negative = refl

minus_five : loaded (code_of (node (tree.Unary Minus (number 5))) 4).word ≡ Op (row.Lalk 0) (operand.Number 65531) ▸ end
minus_five = refl

minus_of_plus : loaded (code_of (node (tree.Unary Minus (node (tree.Unary Plus (number 5))))) 4).word
    ≡ Op row.Lack (operand.Number 5) ▸ bare row.Neg ▸ end
minus_of_plus = refl

plus_is_computed : (code_of (node (tree.Binary word.Mul (read 1) (node (tree.Unary Plus (number 5))))) 4).effect
    ≡ lac (scalar 1) ▸ sacl (scalar 4) ▸ Op row.Lack (operand.Number 5) ▸ sacl (scratch 0) ▸ Op row.Lt (scratch 0) ▸ Op row.Mpy (scalar 4)
    ▸ bare row.Pac ▸ end
plus_is_computed = refl

local_word : loaded (code_of (node (tree.Read (Local 0))) 4).word ≡ lac (operand.Direct (Local 0)) ▸ end
local_word = refl

loads_255 : load_constant (Number 255) ▸ end ≡ Op row.Lack (operand.Number 255) ▸ end
loads_255 = refl

loads_256 : load_constant (Number 256) ▸ end ≡ Op (row.Lalk 0) (operand.Number 256) ▸ end
loads_256 = refl

high_32767 : constant_high (Number 32767) ≡ Small
high_32767 = refl

high_32768 : constant_high (Number 32768) ≡ Sign
high_32768 = refl

high_address : constant_high (Address (Static 1) 2) ≡ Sign
high_address = refl

starts_with_address : initial_constant (initial.Address 3 2) ≡ Address (Static 3) 2
starts_with_address = refl

starts_with_null : initial_constant initial.Null ≡ Number 0
starts_with_null = refl

-- the high half
sign_of_zero : load_signed (Loaded Zero) ≡ sacl (scratch 0) ▸ lac (scratch 0) ▸ end
sign_of_zero = refl

sign_of_sign : load_signed (Held (scalar 0)) ≡ lac (scalar 0) ▸ end
sign_of_sign = refl

constant_to_t : load_t (Fixed (Number 5)) ≡ Op row.Lack (operand.Number 5) ▸ sacl (scratch 0) ▸ Op row.Lt (scratch 0) ▸ end
constant_to_t = refl

and_place : high_with_place bits.And Small ≡ Zero
and_place = refl

or_sign : high_with_place bits.Or Sign ≡ Any
or_sign = refl

masked_by_32767 : masked_by (Number 32767) ≡ Small
masked_by_32767 = refl

masked_by_32768 : masked_by (Number 32768) ≡ Zero
masked_by_32768 = refl

complement_zero : complement_high Zero ≡ Any
complement_zero = refl

complement_small : complement_high Small ≡ Sign
complement_small = refl

-- sums, shifts, products, routines
less_256 : minus (Number 256) ≡ Op (row.Sblk 0) (operand.Number 256) ▸ end
less_256 = refl

less_address : minus (Address (Static 1) 2) ≡ Op (row.Sblk 0) (operand.Address (Static 1) 2) ▸ end
less_address = refl

more_address : plus (Address (Static 1) 2) ≡ Op (row.Adlk 0) (operand.Address (Static 1) 2) ▸ end
more_address = refl

count_17 : count_of (Number 17) ≡ 1
count_17 = refl

left_by_nothing : (with_constant LeftShift (Held (scalar 0)) (Number 0)).items ≡ lac (scalar 0) ▸ end
left_by_nothing = refl

right_by_two : (with_constant (RightShift true) (Held (scalar 0)) (Number 2)).items ≡ lac (scalar 0) ▸ bare row.Sfr ▸ bare row.Sfr ▸ end
right_by_two = refl

right_by_5 : (with_constant (RightShift true) (Loaded Any) (Number 5)).items
    ≡ sacl (scratch 0) ▸ lac (scratch 0) ▸ bare row.Sfr ▸ bare row.Sfr ▸ bare row.Sfr ▸ bare row.Sfr ▸ bare row.Sfr ▸ end
right_by_5 = refl

right_by_6 : (with_constant (RightShift true) (Loaded Any) (Number 6)).items
    ≡ sacl (scratch 0) ▸ lac (scratch 0) ▸ bare row.Sfl ▸ bare row.Sfl ▸ bare row.Sfl ▸ Op (row.Sach 7) (scratch 0) ▸ lac (scratch 0) ▸ end
right_by_6 = refl

right_by_8 : (with_constant (RightShift true) (Loaded Any) (Number 8)).items
    ≡ sacl (scratch 0) ▸ lac (scratch 0) ▸ bare row.Sfl ▸ Op (row.Sach 7) (scratch 0) ▸ lac (scratch 0) ▸ end
right_by_8 = refl

right_by_9 : (with_constant (RightShift true) (Loaded Any) (Number 9)).items
    ≡ sacl (scratch 0) ▸ lac (scratch 0) ▸ Op (row.Sach 7) (scratch 0) ▸ lac (scratch 0) ▸ end
right_by_9 = refl

right_by_15 : (with_constant (RightShift true) (Loaded Any) (Number 15)).items
    ≡ sacl (scratch 0) ▸ lac (scratch 0) ▸ Op (row.Sach 1) (scratch 0) ▸ lac (scratch 0) ▸ end
right_by_15 = refl

unsigned_by_nine : (with_constant (RightShift false) (Loaded Any) (Number 9)).items
    ≡ Op row.Andk (operand.Number 65535) ▸ Op (row.Sach 7) (scratch 0) ▸ Op row.Zals (scratch 0) ▸ end
unsigned_by_nine = refl

unsigned_by_one : (with_constant (RightShift false) (Loaded Any) (Number 1)).found ≡ Loaded Small
unsigned_by_one = refl

below_13_bits : has_13_bits 61439 ≡ false
below_13_bits = refl

long_constant : (with_place Product (Fixed (Number 4096)) (scalar 1)).items
    ≡ Op (row.Lalk 0) (operand.Number 4096) ▸ sacl (scratch 0) ▸ Op row.Lt (scratch 0) ▸ Op row.Mpy (scalar 1) ▸ bare row.Pac ▸ end
long_constant = refl

sum : (with_place Sum (Held (scalar 0)) (scalar 1)).items ≡ lac (scalar 0) ▸ Op (row.Add 0) (scalar 1) ▸ end
sum = refl

difference : (with_place Difference (Held (scalar 0)) (scalar 1)).items ≡ lac (scalar 0) ▸ Op (row.Sub 0) (scalar 1) ▸ end
difference = refl

difference_with_constant : (with_constant Difference (Loaded Any) (Number 7)).items ≡ Op row.Subk (operand.Number 7) ▸ end
difference_with_constant = refl

constant_left : (of_constant LeftShift (Number 3) (Loaded Any)).items
    ≡ sacl (scratch 0) ▸ Op row.Lt (scratch 0) ▸ Op row.Lack (operand.Number 3) ▸ sacl (scratch 0) ▸ Op row.Lact (scratch 0) ▸ end
constant_left = refl

place_left : (of_place LeftShift (scalar 4) (Loaded Any)).items ≡ sacl (scratch 0) ▸ Op row.Lt (scratch 0) ▸ Op row.Lact (scalar 4) ▸ end
place_left = refl

place_RemInt : (of_place (Remainder true) (scalar 4) (Loaded Any)).items
    ≡ sacl (scratch 1) ▸ lac (scalar 4) ▸ sacl (scratch 0) ▸ Helper helper.RemInt ▸ bare row.Ssxm ▸ end
place_RemInt = refl

place_RemUnsigned : (of_place (Remainder false) (scalar 4) (Loaded Any)).items
    ≡ sacl (scratch 1) ▸ lac (scalar 4) ▸ sacl (scratch 0) ▸ Helper helper.RemUnsigned ▸ bare row.Ssxm ▸ end
place_RemUnsigned = refl

place_ShrInt : (of_place (RightShift true) (scalar 4) (Loaded Any)).items
    ≡ sacl (scratch 1) ▸ lac (scalar 4) ▸ sacl (scratch 0) ▸ Helper helper.ShrInt ▸ bare row.Ssxm ▸ end
place_ShrInt = refl

place_ShrUnsigned : (of_place (RightShift false) (scalar 4) (Loaded Any)).items
    ≡ sacl (scratch 1) ▸ lac (scalar 4) ▸ sacl (scratch 0) ▸ Helper helper.ShrUnsigned ▸ bare row.Ssxm ▸ end
place_ShrUnsigned = refl

-- which operation a word operation is
is_RemInt : operation_of word.RemInt ≡ Word (Remainder true)
is_RemInt = refl

is_RemUnsigned : operation_of word.RemUnsigned ≡ Word (Remainder false)
is_RemUnsigned = refl

is_ShrInt : operation_of word.ShrInt ≡ Word (RightShift true)
is_ShrInt = refl

is_ShrUnsigned : operation_of word.ShrUnsigned ≡ Word (RightShift false)
is_ShrUnsigned = refl

is_Ne : operation_of word.Ne ≡ comparison Exact test.Nz
is_Ne = refl

is_LtInt : operation_of word.LtInt ≡ comparison Signed test.Lz
is_LtInt = refl

is_LeInt : operation_of word.LeInt ≡ comparison Signed test.Lez
is_LeInt = refl

is_GtUnsigned : operation_of word.GtUnsigned ≡ comparison Unsigned test.Gz
is_GtUnsigned = refl

is_GeUnsigned : operation_of word.GeUnsigned ≡ comparison Unsigned test.Gez
is_GeUnsigned = refl

opposite_Lz : opposite test.Lz ≡ test.Gez
opposite_Lz = refl

opposite_Gz : opposite test.Gz ≡ test.Lez
opposite_Gz = refl

opposite_Z : opposite test.Z ≡ test.Nz
opposite_Z = refl

swapped_Gez : swapped test.Gez ≡ test.Lez
swapped_Gez = refl

swapped_Lez : swapped test.Lez ≡ test.Gez
swapped_Lez = refl

swapped_Nz : swapped test.Nz ≡ test.Nz
swapped_Nz = refl

-- comparisons
exactly_Any : exactly_less Any (scalar 0) ≡ Op (row.Sub 0) (scalar 0) ▸ Op row.Andk (operand.Number 65535) ▸ end
exactly_Any = refl

exactly_Zero : exactly_less Zero (scalar 0) ≡ Op row.Subs (scalar 0) ▸ end
exactly_Zero = refl

exactly_Sign : exactly_less Sign (scalar 0) ≡ Op (row.Sub 0) (scalar 0) ▸ end
exactly_Sign = refl

exactly_Any_300 : exactly_less_number Any 300 ≡ Op (row.Sblk 0) (operand.Number 300) ▸ Op row.Andk (operand.Number 65535) ▸ end
exactly_Any_300 = refl

exactly_Zero_255 : exactly_less_number Zero 255 ≡ Op row.Subk (operand.Number 255) ▸ end
exactly_Zero_255 = refl

exactly_Zero_65530 : exactly_less_number Zero 65530 ≡ Op row.Xork (operand.Number 65530) ▸ end
exactly_Zero_65530 = refl

exactly_Sign_300 : exactly_less_number Sign 300 ≡ Op (row.Sblk 0) (operand.Number 300) ▸ end
exactly_Sign_300 = refl

exactly_address_Any : exactly_less_constant Any (Address (Static 1) 2)
    ≡ Op (row.Sblk 0) (operand.Address (Static 1) 2) ▸ Op row.Andk (operand.Number 65535) ▸ end
exactly_address_Any = refl

exactly_address_Zero : exactly_less_constant Zero (Address (Static 1) 2)
    ≡ Op (row.Sblk 0) (operand.Address (Static 1) 2) ▸ Op row.Andk (operand.Number 65535) ▸ end
exactly_address_Zero = refl

exactly_address_Sign : exactly_less_constant Sign (Address (Static 1) 2) ≡ Op (row.Sblk 0) (operand.Address (Static 1) 2) ▸ end
exactly_address_Sign = refl

null_held : exact_with (Held (scalar 0)) (Number 0) ≡ lac (scalar 0) ▸ end
null_held = refl

less_unsigned_0 : less_unsigned 0 ≡ end
less_unsigned_0 = refl

less_unsigned_255 : less_unsigned 255 ≡ Op row.Subk (operand.Number 255) ▸ end
less_unsigned_255 = refl

less_unsigned_32767 : less_unsigned 32767 ≡ Op (row.Sblk 0) (operand.Number 32767) ▸ end
less_unsigned_32767 = refl

less_unsigned_32768 : less_unsigned 32768 ≡ Op (row.Sblk 1) (operand.Number 16384) ▸ end
less_unsigned_32768 = refl

signed_any : items_with_place Signed (Loaded Any) (scalar 0) ≡ sacl (scratch 0) ▸ lac (scratch 0) ▸ Op (row.Sub 0) (scalar 0) ▸ end
signed_any = refl

signed_any_10 : items_with_constant Signed (Loaded Any) (Number 10) ≡ sacl (scratch 0) ▸ lac (scratch 0) ▸ Op row.Subk (operand.Number 10) ▸ end
signed_any_10 = refl

Signed_place_Zero : compared_of_place (record { order = Signed; test = test.Lz }) (scalar 4) (Loaded Zero)
    ≡ record { items = sacl (scratch 0) ▸ lac (scalar 4) ▸ Op (row.Sub 0) (scratch 0) ▸ end; test = test.Lz }
Signed_place_Zero = refl

Unsigned_place_Any : compared_of_place (record { order = Unsigned; test = test.Lz }) (scalar 4) (Loaded Any)
    ≡ record { items = sacl (scratch 0) ▸ Op row.Zals (scalar 4) ▸ Op row.Subs (scratch 0) ▸ end; test = test.Lz }
Unsigned_place_Any = refl

Unsigned_place_Small : compared_of_place (record { order = Unsigned; test = test.Lz }) (scalar 4) (Loaded Small)
    ≡ record { items = Op row.Subs (scalar 4) ▸ end; test = test.Gz }
Unsigned_place_Small = refl

Unsigned_place_Sign : compared_of_place (record { order = Unsigned; test = test.Lz }) (scalar 4) (Loaded Sign)
    ≡ record { items = sacl (scratch 0) ▸ Op row.Zals (scalar 4) ▸ Op row.Subs (scratch 0) ▸ end; test = test.Lz }
Unsigned_place_Sign = refl

Exact_place_Zero : compared_of_place (record { order = Exact; test = test.Z }) (scalar 4) (Loaded Zero)
    ≡ record { items = Op row.Subs (scalar 4) ▸ end; test = test.Z }
Exact_place_Zero = refl

-- conditions
not_less : (code_of (node (tree.Not (node (tree.Binary word.LtInt (read 0) (read 1))))) 4).branch true (Runs (sacl (scalar 2) ▸ end)) (Runs (sacl (scalar 1) ▸ end))
    ≡ lac (scalar 0) ▸ Op (row.Sub 0) (scalar 1) ▸ If test.Gez (sacl (scalar 2) ▸ end) (sacl (scalar 1) ▸ end) ▸ end
not_less = refl

truth_of_sum : (code_of (node (tree.Binary word.Add (read 0) (read 1))) 4).branch false Breaks Nothing
    ≡ lac (scalar 0) ▸ Op (row.Add 0) (scalar 1) ▸ Op row.Andk (operand.Number 65535) ▸ If test.Z (Break ▸ end) end ▸ end
truth_of_sum = refl

And_short_miss : (code_of (node (tree.And (node (tree.Binary word.LtInt (read 0) (read 1))) (read 2))) 4).branch true (Runs (sacl (scalar 2) ▸ end)) Breaks
    ≡ lac (scalar 0) ▸ Op (row.Sub 0) (scalar 1) ▸ If test.Lz (lac (scalar 2) ▸ If test.Nz (sacl (scalar 2) ▸ end) (Break ▸ end) ▸ end) (Break
    ▸ end) ▸ end
And_short_miss = refl

And_short_hit : (code_of (node (tree.And (node (tree.Binary word.LtInt (read 0) (read 1))) (read 2))) 4).branch true Continues (Runs (sacl (scalar 1) ▸ end))
    ≡ lac (scalar 0) ▸ Op (row.Sub 0) (scalar 1) ▸ If test.Lz (lac (scalar 2) ▸ If test.Nz (Op row.Lack (operand.Number 1)
    ▸ end) (Op row.Lack (operand.Number 0) ▸ end) ▸ end) (Op row.Lack (operand.Number 0) ▸ end) ▸ If test.Nz (Continue ▸ end) (sacl (scalar 1)
    ▸ end) ▸ end
And_short_hit = refl

And_long : (code_of (node (tree.And (node (tree.Binary word.LtInt (read 0) (read 1))) (read 2))) 4).branch true (Runs (sacl (scalar 2) ▸ end)) (Runs (sacl (scalar 1) ▸ end))
    ≡ lac (scalar 0) ▸ Op (row.Sub 0) (scalar 1) ▸ If test.Lz (lac (scalar 2) ▸ If test.Nz (Op row.Lack (operand.Number 1)
    ▸ end) (Op row.Lack (operand.Number 0) ▸ end) ▸ end) (Op row.Lack (operand.Number 0) ▸ end) ▸ If test.Nz (sacl (scalar 2)
    ▸ end) (sacl (scalar 1) ▸ end) ▸ end
And_long = refl

And_not_short_hit : (code_of (node (tree.And (node (tree.Binary word.LtInt (read 0) (read 1))) (read 2))) 4).branch false Breaks (Runs (sacl (scalar 1) ▸ end))
    ≡ lac (scalar 0) ▸ Op (row.Sub 0) (scalar 1) ▸ If test.Gez (Break ▸ end) (lac (scalar 2) ▸ If test.Z (Break ▸ end) (sacl (scalar 1) ▸ end)
    ▸ end) ▸ end
And_not_short_hit = refl

And_not_short_miss : (code_of (node (tree.And (node (tree.Binary word.LtInt (read 0) (read 1))) (read 2))) 4).branch false (Runs (sacl (scalar 2) ▸ end)) Nothing
    ≡ lac (scalar 0) ▸ Op (row.Sub 0) (scalar 1) ▸ If test.Lz (lac (scalar 2) ▸ If test.Nz (Op row.Lack (operand.Number 1)
    ▸ end) (Op row.Lack (operand.Number 0) ▸ end) ▸ end) (Op row.Lack (operand.Number 0) ▸ end) ▸ If test.Z (sacl (scalar 2) ▸ end) end ▸ end
And_not_short_miss = refl

And_not_long : (code_of (node (tree.And (node (tree.Binary word.LtInt (read 0) (read 1))) (read 2))) 4).branch false (Runs (sacl (scalar 2) ▸ end)) (Runs (sacl (scalar 1) ▸ end))
    ≡ lac (scalar 0) ▸ Op (row.Sub 0) (scalar 1) ▸ If test.Lz (lac (scalar 2) ▸ If test.Nz (Op row.Lack (operand.Number 1)
    ▸ end) (Op row.Lack (operand.Number 0) ▸ end) ▸ end) (Op row.Lack (operand.Number 0) ▸ end) ▸ If test.Z (sacl (scalar 2)
    ▸ end) (sacl (scalar 1) ▸ end) ▸ end
And_not_long = refl

Or_short_miss : (code_of (node (tree.Or (node (tree.Binary word.LtInt (read 0) (read 1))) (read 2))) 4).branch true (Runs (sacl (scalar 2) ▸ end)) Breaks
    ≡ lac (scalar 0) ▸ Op (row.Sub 0) (scalar 1) ▸ If test.Lz (Op row.Lack (operand.Number 1) ▸ end) (lac (scalar 2)
    ▸ If test.Nz (Op row.Lack (operand.Number 1) ▸ end) (Op row.Lack (operand.Number 0) ▸ end) ▸ end) ▸ If test.Nz (sacl (scalar 2)
    ▸ end) (Break ▸ end) ▸ end
Or_short_miss = refl

Or_short_hit : (code_of (node (tree.Or (node (tree.Binary word.LtInt (read 0) (read 1))) (read 2))) 4).branch true Continues (Runs (sacl (scalar 1) ▸ end))
    ≡ lac (scalar 0) ▸ Op (row.Sub 0) (scalar 1) ▸ If test.Lz (Continue ▸ end) (lac (scalar 2) ▸ If test.Nz (Continue ▸ end) (sacl (scalar 1)
    ▸ end) ▸ end) ▸ end
Or_short_hit = refl

Or_long : (code_of (node (tree.Or (node (tree.Binary word.LtInt (read 0) (read 1))) (read 2))) 4).branch true (Runs (sacl (scalar 2) ▸ end)) (Runs (sacl (scalar 1) ▸ end))
    ≡ lac (scalar 0) ▸ Op (row.Sub 0) (scalar 1) ▸ If test.Lz (Op row.Lack (operand.Number 1) ▸ end) (lac (scalar 2)
    ▸ If test.Nz (Op row.Lack (operand.Number 1) ▸ end) (Op row.Lack (operand.Number 0) ▸ end) ▸ end) ▸ If test.Nz (sacl (scalar 2)
    ▸ end) (sacl (scalar 1) ▸ end) ▸ end
Or_long = refl

Or_not_short_hit : (code_of (node (tree.Or (node (tree.Binary word.LtInt (read 0) (read 1))) (read 2))) 4).branch false Breaks (Runs (sacl (scalar 1) ▸ end))
    ≡ lac (scalar 0) ▸ Op (row.Sub 0) (scalar 1) ▸ If test.Lz (Op row.Lack (operand.Number 1) ▸ end) (lac (scalar 2)
    ▸ If test.Nz (Op row.Lack (operand.Number 1) ▸ end) (Op row.Lack (operand.Number 0) ▸ end) ▸ end) ▸ If test.Z (Break
    ▸ end) (sacl (scalar 1) ▸ end) ▸ end
Or_not_short_hit = refl

Or_not_short_miss : (code_of (node (tree.Or (node (tree.Binary word.LtInt (read 0) (read 1))) (read 2))) 4).branch false (Runs (sacl (scalar 2) ▸ end)) Nothing
    ≡ lac (scalar 0) ▸ Op (row.Sub 0) (scalar 1) ▸ If test.Gez (lac (scalar 2) ▸ If test.Z (sacl (scalar 2) ▸ end) end ▸ end) end ▸ end
Or_not_short_miss = refl

Or_not_long : (code_of (node (tree.Or (node (tree.Binary word.LtInt (read 0) (read 1))) (read 2))) 4).branch false (Runs (sacl (scalar 2) ▸ end)) (Runs (sacl (scalar 1) ▸ end))
    ≡ lac (scalar 0) ▸ Op (row.Sub 0) (scalar 1) ▸ If test.Lz (Op row.Lack (operand.Number 1) ▸ end) (lac (scalar 2)
    ▸ If test.Nz (Op row.Lack (operand.Number 1) ▸ end) (Op row.Lack (operand.Number 0) ▸ end) ▸ end) ▸ If test.Z (sacl (scalar 2)
    ▸ end) (sacl (scalar 1) ▸ end) ▸ end
Or_not_long = refl

truth_unused : (code_of (node (tree.And (node (tree.Binary word.LtInt (read 0) (read 1))) (read 2))) 4).effect
    ≡ lac (scalar 0) ▸ Op (row.Sub 0) (scalar 1) ▸ If test.Lz (lac (scalar 2) ▸ If test.Nz end end ▸ end) end ▸ end
truth_unused = refl

truth_used : loaded (code_of (node (tree.Or (node (tree.Binary word.LtInt (read 0) (read 1))) (read 2))) 4).word
    ≡ lac (scalar 0) ▸ Op (row.Sub 0) (scalar 1) ▸ If test.Lz (Op row.Lack (operand.Number 1) ▸ end) (lac (scalar 2)
    ▸ If test.Nz (Op row.Lack (operand.Number 1) ▸ end) (Op row.Lack (operand.Number 0) ▸ end) ▸ end) ▸ end
truth_used = refl

-- expressions
less_is_small : (code_of (node (tree.Binary word.LtInt (read 0) (read 1))) 4).word.found ≡ Loaded Small
less_is_small = refl

minus_any : (code_of (node (tree.Unary Minus (read 0))) 4).word.found ≡ Loaded Any
minus_any = refl

assigned_keeps : (code_of (node (tree.Assign (Named (Scalar 0) 0) (node (tree.Binary word.And (read 2) (number 255))))) 4).word.found ≡ Loaded Small
assigned_keeps = refl

through_temporaries : (code_of (node (tree.Assign (At (node (tree.Binary word.Add (read 3) (read 0))) 0) (node (tree.Binary word.Add (node (tree.Binary word.Add (read 0) (read 1))) (node (tree.Binary word.Add (read 1) (read 2))))))) 4).effect
    ≡ lac (scalar 3) ▸ Op (row.Add 0) (scalar 0) ▸ sacl (scalar 4) ▸ lac (scalar 0) ▸ Op (row.Add 0) (scalar 1) ▸ sacl (scalar 5)
    ▸ lac (scalar 1) ▸ Op (row.Add 0) (scalar 2) ▸ Op (row.Add 0) (scalar 5) ▸ sacl (scratch 0) ▸ lac (scalar 4) ▸ bare row.Point
    ▸ lac (scratch 0) ▸ sacl operand.Pointed ▸ end
through_temporaries = refl

nested_temporaries : (code_of (node (tree.Binary word.Add (node (tree.Binary word.Add (read 0) (read 1))) (node (tree.Binary word.Mul (node (tree.Binary word.Sub (read 0) (read 1))) (node (tree.Binary word.Add (read 1) (read 2))))))) 4).effect
    ≡ lac (scalar 0) ▸ Op (row.Add 0) (scalar 1) ▸ sacl (scalar 4) ▸ lac (scalar 0) ▸ Op (row.Sub 0) (scalar 1) ▸ sacl (scalar 5)
    ▸ lac (scalar 1) ▸ Op (row.Add 0) (scalar 2) ▸ sacl (scratch 0) ▸ Op row.Lt (scratch 0) ▸ Op row.Mpy (scalar 5) ▸ bare row.Pac
    ▸ Op (row.Add 0) (scalar 4) ▸ end
nested_temporaries = refl

compared_temporaries : (code_of (node (tree.Binary word.LtInt (node (tree.Binary word.Add (read 0) (read 1))) (node (tree.Binary word.Mul (node (tree.Binary word.Sub (read 0) (read 1))) (node (tree.Binary word.Add (read 1) (read 2))))))) 4).effect
    ≡ lac (scalar 0) ▸ Op (row.Add 0) (scalar 1) ▸ sacl (scalar 4) ▸ lac (scalar 0) ▸ Op (row.Sub 0) (scalar 1) ▸ sacl (scalar 5)
    ▸ lac (scalar 1) ▸ Op (row.Add 0) (scalar 2) ▸ sacl (scratch 0) ▸ Op row.Lt (scratch 0) ▸ Op row.Mpy (scalar 5) ▸ bare row.Pac
    ▸ sacl (scratch 0) ▸ lac (scalar 4) ▸ Op (row.Sub 0) (scratch 0) ▸ If test.Lz end end ▸ end
compared_temporaries = refl

constant_keeps_depth : (code_of (node (tree.Binary word.Sub (number 5) (node (tree.Binary word.Mul (node (tree.Binary word.Sub (read 0) (read 1))) (node (tree.Binary word.Add (read 1) (read 2))))))) 4).effect
    ≡ lac (scalar 0) ▸ Op (row.Sub 0) (scalar 1) ▸ sacl (scalar 4) ▸ lac (scalar 1) ▸ Op (row.Add 0) (scalar 2) ▸ sacl (scratch 0)
    ▸ Op row.Lt (scratch 0) ▸ Op row.Mpy (scalar 4) ▸ bare row.Pac ▸ bare row.Neg ▸ Op row.Addk (operand.Number 5) ▸ end
constant_keeps_depth = refl

pick : loaded (code_of (node (tree.Pick (read 0) (node (tree.Binary word.And (read 1) (read 2))) (read 1))) 4).word
    ≡ lac (scalar 0) ▸ If test.Nz (lac (scalar 1) ▸ Op row.And (scalar 2) ▸ sacl (scratch 0) ▸ lac (scratch 0) ▸ end) (lac (scalar 1) ▸ end)
    ▸ end
pick = refl

pick_unused : (code_of (node (tree.Pick (read 0) (node (tree.StepAfter true (Named (Scalar 1) 0))) (node (tree.In 3)))) 4).effect
    ≡ lac (scalar 0) ▸ If test.Nz (lac (scalar 1) ▸ Op row.Addk (operand.Number 1) ▸ sacl (scalar 1) ▸ end) (Op (row.In 3) (scratch 0) ▸ end)
    ▸ end
pick_unused = refl

comma : loaded (code_of (node (tree.Comma (node (tree.StepAfter false (Named (Scalar 2) 0))) (read 1))) 4).word
    ≡ lac (scalar 2) ▸ Op row.Subk (operand.Number 1) ▸ sacl (scalar 2) ▸ lac (scalar 1) ▸ end
comma = refl

comma_point : (code_of (node (tree.Assign (At (node (tree.Comma (node (tree.StepBefore false (Named (Scalar 2) 0))) (read 3))) 0) (read 0))) 4).effect
    ≡ lac (scalar 2) ▸ Op row.Subk (operand.Number 1) ▸ sacl (scalar 2) ▸ lac (scalar 3) ▸ bare row.Point ▸ lac (scalar 0) ▸ sacl operand.Pointed
    ▸ end
comma_point = refl

comma_branch : (code_of (node (tree.Comma (node (tree.StepAfter false (Named (Scalar 2) 0))) (read 1))) 4).branch true Nothing Breaks
    ≡ lac (scalar 2) ▸ Op row.Subk (operand.Number 1) ▸ sacl (scalar 2) ▸ lac (scalar 1) ▸ If test.Nz end (Break ▸ end) ▸ end
comma_branch = refl

comma_into : (code_of (node (tree.Assign (Named (Scalar 0) 0) (node (tree.Comma (node (tree.StepAfter true (Named (Scalar 2) 0))) (node (tree.In 7)))))) 4).effect
    ≡ lac (scalar 2) ▸ Op row.Addk (operand.Number 1) ▸ sacl (scalar 2) ▸ Op (row.In 7) (scalar 0) ▸ end
comma_into = refl

in_into : (code_of (node (tree.Assign (Named (Scalar 0) 0) (node (tree.In 7)))) 4).effect ≡ Op (row.In 7) (scalar 0) ▸ end
in_into = refl

in_used : loaded (code_of (node (tree.Unary Complement (node (tree.In 7)))) 4).word
    ≡ Op (row.In 7) (scratch 0) ▸ lac (scratch 0) ▸ bare row.Cmpl ▸ end
in_used = refl

in_unused : (code_of (node (tree.In 7)) 4).effect ≡ Op (row.In 7) (scratch 0) ▸ end
in_unused = refl

chain : (code_of (node (tree.Assign (Named (Scalar 0) 0) (node (tree.Assign (Named (Scalar 1) 0) (node (tree.Binary word.And (read 2) (number 255))))))) 4).effect
    ≡ lac (scalar 2) ▸ Op row.Andk (operand.Number 255) ▸ sacl (scalar 1) ▸ sacl (scalar 0) ▸ end
chain = refl

at_once : (code_of (node (tree.Assign (At (node (tree.StepAfter true (Named (Scalar 3) 0))) 0) (read 0))) 4).effect
    ≡ lac (scalar 3) ▸ bare row.Point ▸ Op row.Addk (operand.Number 1) ▸ sacl (scalar 3) ▸ lac (scalar 0) ▸ sacl operand.Pointed ▸ end
at_once = refl

at_once_update : (code_of (node (tree.AssignOp word.Sub (At (node (tree.StepAfter false (Named (Scalar 3) 0))) 0) (number 2))) 4).effect
    ≡ lac (scalar 3) ▸ bare row.Point ▸ Op row.Subk (operand.Number 1) ▸ sacl (scalar 3) ▸ lac operand.Pointed ▸ Op row.Subk (operand.Number 2)
    ▸ sacl operand.Pointed ▸ end
at_once_update = refl

through_update : (code_of (node (tree.AssignOp word.DivInt (At (node (tree.Binary word.Add (read 3) (read 0))) 0) (node (tree.Binary word.Add (read 1) (read 2))))) 4).effect
    ≡ lac (scalar 3) ▸ Op (row.Add 0) (scalar 0) ▸ sacl (scalar 4) ▸ bare row.Point ▸ lac operand.Pointed ▸ sacl (scalar 5) ▸ lac (scalar 1)
    ▸ Op (row.Add 0) (scalar 2) ▸ sacl (scratch 1) ▸ lac (scalar 5) ▸ sacl (scratch 0) ▸ Helper helper.DivInt ▸ bare row.Ssxm
    ▸ sacl (scratch 0) ▸ lac (scalar 4) ▸ bare row.Point ▸ lac (scratch 0) ▸ sacl operand.Pointed ▸ end
through_update = refl

name_update : (code_of (node (tree.AssignOp word.Shl (Named (Scalar 0) 0) (number 2))) 4).effect ≡ Op (row.Lac 2) (scalar 0) ▸ sacl (scalar 0) ▸ end
name_update = refl

down_after : loaded (code_of (node (tree.StepAfter false (Named (Scalar 0) 0))) 4).word
    ≡ lac (scalar 0) ▸ Op row.Subk (operand.Number 1) ▸ sacl (scalar 0) ▸ Op row.Addk (operand.Number 1) ▸ end
down_after = refl

down_before : loaded (code_of (node (tree.StepBefore false (At (read 3) 0))) 4).word
    ≡ lac (scalar 3) ▸ bare row.Point ▸ lac operand.Pointed ▸ Op row.Subk (operand.Number 1) ▸ sacl operand.Pointed ▸ end
down_before = refl

up_after_pointed : loaded (code_of (node (tree.StepAfter true (At (read 3) 0))) 4).word
    ≡ lac (scalar 3) ▸ bare row.Point ▸ lac operand.Pointed ▸ Op row.Addk (operand.Number 1) ▸ sacl operand.Pointed
    ▸ Op row.Subk (operand.Number 1) ▸ end
up_after_pointed = refl

step_before_point : (code_of (node (tree.Assign (Named (Scalar 0) 0) (node (tree.Load (node (tree.StepBefore true (Named (Scalar 3) 0))))))) 4).effect
    ≡ lac (scalar 3) ▸ Op row.Addk (operand.Number 1) ▸ sacl (scalar 3) ▸ bare row.Point ▸ lac operand.Pointed ▸ sacl (scalar 0) ▸ end
step_before_point = refl

out_name : (code_of (node (tree.Out 2 (read 0))) 4).effect ≡ Op (row.Out 2) (scalar 0) ▸ end
out_name = refl

out_sum : (code_of (node (tree.Out 2 (node (tree.Binary word.Add (read 0) (read 1))))) 4).effect
    ≡ lac (scalar 0) ▸ Op (row.Add 0) (scalar 1) ▸ sacl (scratch 0) ▸ Op (row.Out 2) (scratch 0) ▸ end
out_sum = refl

out_constant : (code_of (node (tree.Out 2 (number 300))) 4).effect
    ≡ Op (row.Lalk 0) (operand.Number 300) ▸ sacl (scratch 0) ▸ Op (row.Out 2) (scratch 0) ▸ end
out_constant = refl

call : (code_of (node (tree.Call 1 (tree.more (read 0) (tree.more (node (tree.Binary word.Add (read 1) (read 2))) (tree.more (node (tree.In 6)) tree.none))))) 4).effect
    ≡ lac (scalar 0) ▸ sacl (scalar 4) ▸ lac (scalar 1) ▸ Op (row.Add 0) (scalar 2) ▸ sacl (scalar 5) ▸ Op (row.In 6) (operand.Param 1 2)
    ▸ lac (scalar 4) ▸ sacl (operand.Param 1 0) ▸ lac (scalar 5) ▸ sacl (operand.Param 1 1) ▸ Call 1 ▸ end
call = refl

call_none : (code_of (node (tree.Call 2 tree.none)) 4).effect ≡ Call 2 ▸ end
call_none = refl

nested_call : (code_of (node (tree.Call 1 (tree.more (read 0) (tree.more (node (tree.Call 3 (tree.more (read 1) (tree.more (read 2) tree.none)))) tree.none)))) 4).effect
    ≡ lac (scalar 0) ▸ sacl (scalar 4) ▸ lac (scalar 1) ▸ sacl (scalar 5) ▸ lac (scalar 2) ▸ sacl (operand.Param 3 1) ▸ lac (scalar 5)
    ▸ sacl (operand.Param 3 0) ▸ Call 3 ▸ sacl (operand.Param 1 1) ▸ lac (scalar 4) ▸ sacl (operand.Param 1 0) ▸ Call 1 ▸ end
nested_call = refl

-- statements
if_both : statement_items [] 4 (tree.If (read 0) (tree.Do_expr (node (tree.Assign (Named (Scalar 0) 0) (number 1)))) (tree.Do_expr (node (tree.Assign (Named (Scalar 0) 0) (number 2)))))
    ≡ lac (scalar 0) ▸ If test.Nz (Op row.Lack (operand.Number 1) ▸ sacl (scalar 0) ▸ end) (Op row.Lack (operand.Number 2) ▸ sacl (scalar 0)
    ▸ end) ▸ end
if_both = refl

if_and_break : statement_items [] 4 (tree.If (node (tree.And (read 0) (read 1))) (tree.Block [] (tree.both tree.Break tree.done)) (tree.Do_expr (node (tree.Assign (Named (Scalar 0) 0) (number 1)))))
    ≡ lac (scalar 0) ▸ If test.Nz (lac (scalar 1) ▸ If test.Nz (Op row.Lack (operand.Number 1) ▸ end) (Op row.Lack (operand.Number 0) ▸ end)
    ▸ end) (Op row.Lack (operand.Number 0) ▸ end) ▸ If test.Nz (Break ▸ end) (Op row.Lack (operand.Number 1) ▸ sacl (scalar 0) ▸ end) ▸ end
if_and_break = refl

if_or_continue : statement_items [] 4 (tree.If (node (tree.Or (read 0) (read 1))) tree.Continue (tree.Block [] tree.done))
    ≡ lac (scalar 0) ▸ If test.Nz (Continue ▸ end) (lac (scalar 1) ▸ If test.Nz (Continue ▸ end) end ▸ end) ▸ end
if_or_continue = refl

if_and_break_two : statement_items [] 4 (tree.If (node (tree.And (read 0) (read 1))) (tree.Do_expr (node (tree.Assign (Named (Scalar 0) 0) (number 1)))) (tree.Block [] (tree.both tree.Break (tree.both (tree.Do_expr (node (tree.Assign (Named (Scalar 0) 0) (number 2)))) tree.done))))
    ≡ lac (scalar 0) ▸ If test.Nz (lac (scalar 1) ▸ If test.Nz (Op row.Lack (operand.Number 1) ▸ end) (Op row.Lack (operand.Number 0) ▸ end)
    ▸ end) (Op row.Lack (operand.Number 0) ▸ end) ▸ If test.Nz (Op row.Lack (operand.Number 1) ▸ sacl (scalar 0) ▸ end) (Break
    ▸ Op row.Lack (operand.Number 2) ▸ sacl (scalar 0) ▸ end) ▸ end
if_and_break_two = refl

if_and_two : statement_items [] 4 (tree.If (node (tree.And (read 0) (read 1))) (tree.Do_expr (node (tree.Assign (Named (Scalar 0) 0) (number 1)))) (tree.Block [] (tree.both (tree.Do_expr (node (tree.Assign (Named (Scalar 0) 0) (number 2)))) (tree.both tree.Break tree.done))))
    ≡ lac (scalar 0) ▸ If test.Nz (lac (scalar 1) ▸ If test.Nz (Op row.Lack (operand.Number 1) ▸ end) (Op row.Lack (operand.Number 0) ▸ end)
    ▸ end) (Op row.Lack (operand.Number 0) ▸ end) ▸ If test.Nz (Op row.Lack (operand.Number 1) ▸ sacl (scalar 0)
    ▸ end) (Op row.Lack (operand.Number 2) ▸ sacl (scalar 0) ▸ Break ▸ end) ▸ end
if_and_two = refl

while_loop : statement_items [] 4 (tree.While (read 0) (tree.Do_expr (node (tree.Assign (Named (Scalar 0) 0) (number 1)))))
    ≡ Loop (lac (scalar 0) ▸ If test.Nz end (Break ▸ end) ▸ end) (Op row.Lack (operand.Number 1) ▸ sacl (scalar 0) ▸ end) end false ▸ end
while_loop = refl

while_one : statement_items [] 4 (tree.While (number 1) (tree.Do_expr (node (tree.Assign (Named (Scalar 0) 0) (number 1)))))
    ≡ Loop end (Op row.Lack (operand.Number 1) ▸ sacl (scalar 0) ▸ end) end false ▸ end
while_one = refl

while_null : statement_items [] 4 (tree.While (number 0) (tree.Do_expr (node (tree.Assign (Named (Scalar 0) 0) (number 1)))))
    ≡ Loop (Break ▸ end) (Op row.Lack (operand.Number 1) ▸ sacl (scalar 0) ▸ end) end false ▸ end
while_null = refl

do_while : statement_items [] 4 (tree.Do_while (tree.Do_expr (node (tree.Assign (Named (Scalar 0) 0) (number 1)))) (read 0))
    ≡ Loop end (Op row.Lack (operand.Number 1) ▸ sacl (scalar 0) ▸ end) (lac (scalar 0) ▸ If test.Nz end (Break ▸ end) ▸ end) true ▸ end
do_while = refl

for_loop : statement_items [] 4 (tree.For (Some (node (tree.Assign (Named (Scalar 1) 0) (number 0)))) (Some (node (tree.Binary word.LtInt (read 1) (number 5)))) (Some (node (tree.StepAfter true (Named (Scalar 1) 0)))) (tree.Do_expr (node (tree.Assign (Named (Scalar 0) 0) (number 1)))))
    ≡ Op row.Lack (operand.Number 0) ▸ sacl (scalar 1) ▸ Loop (lac (scalar 1) ▸ Op row.Subk (operand.Number 5) ▸ If test.Lz end (Break ▸ end)
    ▸ end) (Op row.Lack (operand.Number 1) ▸ sacl (scalar 0) ▸ end) (lac (scalar 1) ▸ Op row.Addk (operand.Number 1) ▸ sacl (scalar 1)
    ▸ end) false ▸ end
for_loop = refl

for_ever : statement_items [] 4 (tree.For None None None (tree.Do_expr (node (tree.Assign (Named (Scalar 0) 0) (number 1)))))
    ≡ Loop end (Op row.Lack (operand.Number 1) ▸ sacl (scalar 0) ▸ end) end false ▸ end
for_ever = refl

switch_loop : statement_items [] 4 (tree.Switch (read 0) (tree.case 32768 (tree.body (tree.Do_expr (node (tree.Assign (Named (Scalar 0) 0) (number 1)))) (tree.default (tree.case 1 (tree.body tree.Break tree.no_more))))))
    ≡ lac (scalar 0) ▸ Op row.Andk (operand.Number 65535) ▸ Switch (Value 32768 ∷ Default ∷ Value 1 ∷ []) (Case 0
    ▸ Op row.Lack (operand.Number 1) ▸ sacl (scalar 0) ▸ Case 1 ▸ Case 2 ▸ Break ▸ end) ▸ end
switch_loop = refl

return_pick : statement_items [] 4 (tree.Return (Some (node (tree.StepAfter true (Named (Scalar 0) 0)))))
    ≡ lac (scalar 0) ▸ Op row.Addk (operand.Number 1) ▸ sacl (scalar 0) ▸ Op row.Subk (operand.Number 1) ▸ Return ▸ end
return_pick = refl

two_cells : cell_items 2 0 (initial.Word 300 ∷ initial.Null ∷ [])
    ≡ Op (row.Lalk 0) (operand.Address (Local 2) 0) ▸ bare row.Point ▸ Op (row.Lalk 0) (operand.Number 300) ▸ sacl operand.Pointed
    ▸ Op (row.Lalk 0) (operand.Address (Local 2) 1) ▸ bare row.Point ▸ Op row.Lack (operand.Number 0) ▸ sacl operand.Pointed
    ▸ Clear (Local 2) 2 ▸ end
two_cells = refl

closes : closed_main (lac (scalar 0) ▸ If test.Nz (Return ▸ end) end ▸ end)
    ≡ lac (scalar 0) ▸ If test.Nz (Return ▸ end) end ▸ Op row.Lack (operand.Number 0) ▸ Return ▸ end
closes = refl

closed : closed_main (lac (scalar 0) ▸ Return ▸ end) ≡ lac (scalar 0) ▸ Return ▸ end
closed = refl

body_of_f : (selected_function (record { name = 102 ∷ []; scalars = 3; params = []; locals = []; body = (tree.Do_expr (node (tree.Assign (Named (Scalar 0) 0) (node (tree.Binary word.Sub (node (tree.Binary word.Add (read 0) (read 1))) (node (tree.Binary word.Add (read 1) (read 0)))))))) })).body
    ≡ lac (scalar 0) ▸ Op (row.Add 0) (scalar 1) ▸ sacl (scalar 2) ▸ lac (scalar 1) ▸ Op (row.Add 0) (scalar 0) ▸ Op (row.Sub 0) (scalar 2)
    ▸ bare row.Neg ▸ sacl (scalar 0) ▸ end
body_of_f = refl

body_of_main : (selected_function (record { name = 109 ∷ 97 ∷ 105 ∷ 110 ∷ []; scalars = 3; params = []; locals = []; body = (tree.Do_expr (node (tree.Assign (Named (Scalar 0) 0) (node (tree.Binary word.Sub (node (tree.Binary word.Add (read 0) (read 1))) (node (tree.Binary word.Add (read 1) (read 0)))))))) })).body
    ≡ lac (scalar 0) ▸ Op (row.Add 0) (scalar 1) ▸ sacl (scalar 2) ▸ lac (scalar 1) ▸ Op (row.Add 0) (scalar 0) ▸ Op (row.Sub 0) (scalar 2)
    ▸ bare row.Neg ▸ sacl (scalar 0) ▸ Op row.Lack (operand.Number 0) ▸ Return ▸ end
body_of_main = refl
