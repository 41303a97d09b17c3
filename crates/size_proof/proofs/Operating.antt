-- What operations and comparisons weigh, by what their operands are.
use Rattle.std.proofs.Common.{◌≡◌, ℕ, ◌+◌, ◌-◌, ◌/◌, ◌%◌, ◌≤◌, Bool, true, false, refl, arith}
use Rattle.std.specs.Prelude.{nat_lt, ◌==◌, if◌then◌else◌}
use Rattle.std.proofs.lemmas.Bool.{ltb-true}
use Rattle.acc_code.specs.AccTree.{Item, Op, ItemList, end, ◌▸◌, ◌⧺◌}
use Rattle.acc_code.specs.Operands.{has_13_bits}
use Rattle.acc_code.specs.declared.operand.AccOperand.{AccOperand}
use Rattle.acc_code.specs.declared.operand.AccOperand.TheVariants as operand
use Rattle.acc_code.specs.declared.operand.HelperName.{HelperName}
use Rattle.acc_code.specs.declared.operation.AccOp.TheVariants as row
use Rattle.acc_select.specs.acc_operations.Arithmetic.{shift_helper, division_helper, remainder_helper, row_on_place, row_on_constant, times_place, times, multiply, product_with_place, helped, helped_behind, shifted_right, with_place, with_constant, of_constant, of_place}
use Rattle.acc_select.specs.acc_operations.Comparisons.{exactly_less, exactly_less_number, exactly_less_constant, exact_with, less_unsigned, items_with_place, items_with_constant, items_of_place, compared_with_place, compared_with_constant, compared_of_constant, compared_of_place, sub, subs, low_half}
use Rattle.acc_select.specs.acc_operations.Constants.{load_constant, constant_operand}
use Rattle.acc_select.specs.acc_operations.Kinds.{swapped_comparison}
use Rattle.acc_select.specs.acc_operations.Sums.{plus, minus, count_of, repeated, shift_left, moved_right, moved_right_signed, by_helper}
use Rattle.acc_select.specs.acc_operations.Words.{in_accumulator, lac, sacl, bare, load, high, store, load_t, load_signed, load_unsigned, load_clean, scratch}
use Rattle.acc_select.specs.acc_operations.declared.comparison.Comparison.{Comparison}
use Rattle.acc_select.specs.acc_operations.declared.comparison.Order.{Order}
use Rattle.acc_select.specs.acc_operations.declared.comparison.Order.TheVariants.{Exact, Signed, Unsigned}
use Rattle.acc_select.specs.acc_operations.declared.constant.Constant.{Constant}
use Rattle.acc_select.specs.acc_operations.declared.constant.Constant.TheVariants.{Number, Address}
use Rattle.acc_select.specs.acc_operations.declared.found.Found.{Found}
use Rattle.acc_select.specs.acc_operations.declared.found.Found.TheVariants.{Fixed, Held, Loaded}
use Rattle.acc_select.specs.acc_operations.declared.high_half.HighHalf.{HighHalf}
use Rattle.acc_select.specs.acc_operations.declared.high_half.HighHalf.TheVariants.{Any, Zero, Sign, Small}
use Rattle.acc_select.specs.acc_operations.declared.operation.Bitwise.{Bitwise}
use Rattle.acc_select.specs.acc_operations.declared.operation.Bitwise.TheVariants as bits
use Rattle.acc_select.specs.acc_operations.declared.operation.Arithmetic.{Arithmetic}
use Rattle.acc_select.specs.acc_operations.declared.operation.Arithmetic.TheVariants.{Sum, Difference, Bits, Product, LeftShift, RightShift, Quotient, Remainder}
use Rattle.ir_semantics.specs.AccRows.{operand_weight}
use Rattle.ir_semantics.specs.Weights.{item_weight}
use Rattle.size_proof.proofs.Weighing.{Weighs, weight_of, one_of, load_constant_weighs, found_weight, load_weighs, store_weighs, load_t_weighs, load_signed_weighs, load_unsigned_weighs, load_clean_weighs, plus_weighs, minus_weighs, repeated_weighs, WordWeighs}

-- one behind another, of at most so much together
both : (xs ys : ItemList) (n m k : ℕ) → Weighs xs n → Weighs ys m → n + m ≤ k → Weighs (xs ⧺ ys) k
both xs ys n m k h j le = let e = weight_of xs ys in omega (arith, e, h, j, le)

more : (xs : ItemList) (n k : ℕ) → Weighs xs n → n ≤ k → Weighs xs k
more xs n k h le = omega (arith, h, le)

-- products with constants
times_weighs : (k : Constant) → Weighs (times k) 7
times_weighs (Number w) =
    let e = load_constant_weighs (Number w) in
    one_of (has_13_bits w) (Op row.Mpyk (operand.Number w) ▸ bare row.Pac ▸ end) (load_constant (Number w) ▸ sacl (scratch 0) ▸ times_place (scratch 0)) 7 (omega arith) (omega (arith, e))
times_weighs (Address v n) = let e = load_constant_weighs (Address v n) in omega (arith, e)

multiply_weighs : (f : Found) (m : AccOperand) → Weighs (multiply f m) (found_weight f + (operand_weight m + 5))
multiply_weighs f m = both (load_t f) (times_place m) (found_weight f + 4) (operand_weight m + 1) _ (load_t_weighs f) (omega arith) (omega arith)

product_weighs : (f : Found) (m : AccOperand) → Weighs (product_with_place f m) (found_weight f + (operand_weight m + 7))
product_weighs (Fixed (Number w)) m =
    let t = times_weighs (Number w) in
    one_of (has_13_bits w) (Op row.Lt m ▸ times (Number w)) (multiply (Fixed (Number w)) m) (found_weight (Fixed (Number w)) + (operand_weight m + 7)) (omega (arith, t)) (more (multiply (Fixed (Number w)) m) (found_weight (Fixed (Number w)) + (operand_weight m + 5)) (found_weight (Fixed (Number w)) + (operand_weight m + 7)) (multiply_weighs (Fixed (Number w)) m) (omega arith))
product_weighs (Fixed (Address v n)) m = more (multiply (Fixed (Address v n)) m) (found_weight (Fixed (Address v n)) + (operand_weight m + 5)) (found_weight (Fixed (Address v n)) + (operand_weight m + 7)) (multiply_weighs (Fixed (Address v n)) m) (omega arith)
product_weighs (Held n) m = more (multiply (Held n) m) (found_weight (Held n) + (operand_weight m + 5)) (found_weight (Held n) + (operand_weight m + 7)) (multiply_weighs (Held n) m) (omega arith)
product_weighs (Loaded h) m = more (multiply (Loaded h) m) (found_weight (Loaded h) + (operand_weight m + 5)) (found_weight (Loaded h) + (operand_weight m + 7)) (multiply_weighs (Loaded h) m) (omega arith)

-- shifts by constants
moved_left_by : (b : Bool) (f : Found) (n : ℕ) → nat_lt n 4 ≡ b → Weighs (if b then load f ⧺ repeated n (bare row.Sfl) else store (scratch 0) f ⧺ Op (row.Lac n) (scratch 0) ▸ end) (found_weight f + 4)
moved_left_by true f n is = let few = ltb-true n 4 is in let r = repeated_weighs n row.Sfl refl in both (load f) (repeated n (bare row.Sfl)) (found_weight f) 4 _ (load_weighs f) (omega (arith, few, r)) (omega arith)
moved_left_by false f n is = both (store (scratch 0) f) (Op (row.Lac n) (scratch 0) ▸ end) (found_weight f + 2) 2 _ (store_weighs (scratch 0) f) (omega arith) (omega arith)

shift_left_weighs : (f : Found) (n : ℕ) → Weighs (shift_left f n) (found_weight f + 4)
shift_left_weighs (Fixed k) n = moved_left_by (nat_lt n 4) (Fixed k) n refl
shift_left_weighs (Held m) n = omega arith
shift_left_weighs (Loaded h) n = moved_left_by (nat_lt n 4) (Loaded h) n refl

moved_right_by : (a b : Bool) (reload : Item) (n : ℕ) → nat_lt n 6 ≡ a → nat_lt n 9 ≡ b → item_weight reload ≡ 2
    → Weighs (if a then repeated n (bare row.Sfr) else if b then repeated (9 - n) (bare row.Sfl) ⧺ Op (row.Sach 7) (scratch 0) ▸ reload ▸ end else Op (row.Sach (16 - n)) (scratch 0) ▸ reload ▸ end) 13
moved_right_by true b reload n is also light = let few = ltb-true n 6 is in let r = repeated_weighs n row.Sfr refl in omega (arith, few, r)
moved_right_by false true reload n is also light =
    let r = repeated_weighs (9 - n) row.Sfl refl in both (repeated (9 - n) (bare row.Sfl)) (Op (row.Sach 7) (scratch 0) ▸ reload ▸ end) 9 4 13 (omega (arith, r)) (omega (arith, light)) (omega arith)
moved_right_by false false reload n is also light = omega (arith, light)

moved_right_signed_weighs : (f : Found) (n : ℕ) → Weighs (moved_right_signed f n) (found_weight f + 17)
moved_right_signed_weighs f n = both (load_signed f) (moved_right (lac (scratch 0)) n) (found_weight f + 4) 13 _ (load_signed_weighs f) (moved_right_by (nat_lt n 6) (nat_lt n 9) (lac (scratch 0)) n refl refl refl) (omega arith)

shifted_right_weighs : (signed : Bool) (f : Found) (n : ℕ) → WordWeighs (shifted_right signed f n) (found_weight f + 17)
shifted_right_weighs true (Fixed k) n = let h = moved_right_signed_weighs (Fixed k) n in omega (arith, h)
shifted_right_weighs true (Held m) n =
    let h = one_of (nat_lt n 3) (moved_right_signed (Held m) n) (Op (row.Lac (16 - n)) m ▸ Op (row.Sach 0) (scratch 0) ▸ lac (scratch 0) ▸ end) (operand_weight m + 17) (moved_right_signed_weighs (Held m) n) (omega arith) in omega (arith, h)
shifted_right_weighs true (Loaded h) n = let h = moved_right_signed_weighs (Loaded h) n in omega (arith, h)
shifted_right_weighs false f n =
    let h = both (load_unsigned f) (moved_right (Op row.Zals (scratch 0)) n) (found_weight f + 2) 13 (found_weight f + 17) (load_unsigned_weighs f) (moved_right_by (nat_lt n 6) (nat_lt n 9) (Op row.Zals (scratch 0)) n refl refl refl) (omega arith) in omega (arith, h)

-- a routine, behind both operands
helped_weighs : (name : HelperName) (f : Found) (x : Item) → Weighs (helped name f x).items (found_weight f + (item_weight x + 12))
helped_weighs name f x = both (store (scratch 0) f) (x ▸ sacl (scratch 1) ▸ by_helper name) (found_weight f + 2) (item_weight x + 10) _ (store_weighs (scratch 0) f) (omega arith) (omega arith)

helped_behind_weighs : (name : HelperName) (f : Found) (x : Item) → Weighs (helped_behind name f x).items (found_weight f + (item_weight x + 12))
helped_behind_weighs name f x = both (store (scratch 1) f) (x ▸ sacl (scratch 0) ▸ by_helper name) (found_weight f + 2) (item_weight x + 10) _ (store_weighs (scratch 1) f) (omega arith) (omega arith)

behind_load : (f : Found) (xs : ItemList) (n k : ℕ) → Weighs xs n → n ≤ k → Weighs (load f ⧺ xs) (found_weight f + k)
behind_load f xs n k h le = both (load f) xs (found_weight f) n _ (load_weighs f) h (omega (arith, le))

-- words in the accumulator weigh what their items do
made : (xs : ItemList) (h : HighHalf) (n : ℕ) → Weighs xs n → WordWeighs (in_accumulator xs h) n
made xs h n w = omega (arith, w)

place_row : (o : Bitwise) (m : AccOperand) → Weighs (Op (row_on_place o) m ▸ end) (operand_weight m)
place_row bits.And m = omega arith
place_row bits.Or m = omega arith
place_row bits.Xor m = omega arith

pub with_place_weighs : (o : Arithmetic) (f : Found) (m : AccOperand) → WordWeighs (with_place o f m) (found_weight f + (operand_weight m + 12))
with_place_weighs Sum f m = made _ Any _ (behind_load f (Op (row.Add 0) m ▸ end) (operand_weight m) _ (omega arith) (omega arith))
with_place_weighs Difference f m = made _ Any _ (behind_load f (Op (row.Sub 0) m ▸ end) (operand_weight m) _ (omega arith) (omega arith))
with_place_weighs (Bits o) f m = made _ Any _ (behind_load f (Op (row_on_place o) m ▸ end) (operand_weight m) _ (place_row o m) (omega arith))
with_place_weighs Product f m = let h = product_weighs f m in omega (arith, h)
with_place_weighs LeftShift f m = made _ Any _ (both (store (scratch 0) f) (Op row.Lt m ▸ Op row.Lact (scratch 0) ▸ end) (found_weight f + 2) (operand_weight m + 2) _ (store_weighs (scratch 0) f) (omega arith) (omega arith))
with_place_weighs (RightShift signed) f m = made _ Any _ (helped_weighs _ f (lac m))
with_place_weighs (Quotient signed) f m = made _ Any _ (helped_weighs _ f (lac m))
with_place_weighs (Remainder signed) f m = made _ Any _ (helped_weighs _ f (lac m))

constant_row : (o : Bitwise) (k : Constant) → Weighs (Op (row_on_constant o) (constant_operand k) ▸ end) 2
constant_row bits.And (Number w) = omega arith
constant_row bits.Or (Number w) = omega arith
constant_row bits.Xor (Number w) = omega arith
constant_row bits.And (Address v n) = omega arith
constant_row bits.Or (Address v n) = omega arith
constant_row bits.Xor (Address v n) = omega arith

pub with_constant_weighs : (o : Arithmetic) (f : Found) (k : Constant) → WordWeighs (with_constant o f k) (found_weight f + 17)
with_constant_weighs Sum f k = made _ Any _ (behind_load f (plus k) 2 _ (plus_weighs k) (omega arith))
with_constant_weighs Difference f k = made _ Any _ (behind_load f (minus k) 2 _ (minus_weighs k) (omega arith))
with_constant_weighs (Bits o) f k = made _ Any _ (behind_load f (Op (row_on_constant o) (constant_operand k) ▸ end) 2 _ (constant_row o k) (omega arith))
with_constant_weighs Product f k = made _ Any _ (both (load_t f) (times k) (found_weight f + 4) 7 _ (load_t_weighs f) (times_weighs k) (omega arith))
with_constant_weighs LeftShift f k = let h = shift_left_weighs f (count_of k) in omega (arith, h)
with_constant_weighs (RightShift signed) f k = shifted_right_weighs signed f (count_of k)
with_constant_weighs (Quotient signed) f k = let e = load_constant_weighs k in let h = helped_weighs (division_helper signed) f (load_constant k) in omega (arith, e, h)
with_constant_weighs (Remainder signed) f k = let e = load_constant_weighs k in let h = helped_weighs (remainder_helper signed) f (load_constant k) in omega (arith, e, h)

pub of_constant_weighs : (o : Arithmetic) (k : Constant) (f : Found) → WordWeighs (of_constant o k f) (found_weight f + 17)
of_constant_weighs Sum k f = made _ Any _ (behind_load f (plus k) 2 _ (plus_weighs k) (omega arith))
of_constant_weighs Difference k f = made _ Any _ (behind_load f (bare row.Neg ▸ plus k) 3 _ (let p = plus_weighs k in omega (arith, p)) (omega arith))
of_constant_weighs (Bits o) k f = made _ Any _ (behind_load f (Op (row_on_constant o) (constant_operand k) ▸ end) 2 _ (constant_row o k) (omega arith))
of_constant_weighs Product k f = made _ Any _ (both (load_t f) (times k) (found_weight f + 4) 7 _ (load_t_weighs f) (times_weighs k) (omega arith))
of_constant_weighs LeftShift k f =
    let e = load_constant_weighs k in
    made _ Any _ (both (store (scratch 0) f) (Op row.Lt (scratch 0) ▸ load_constant k ▸ sacl (scratch 0) ▸ Op row.Lact (scratch 0) ▸ end) (found_weight f + 2) 8 _ (store_weighs (scratch 0) f) (omega (arith, e)) (omega arith))
of_constant_weighs (RightShift signed) k f = let e = load_constant_weighs k in let h = helped_behind_weighs (shift_helper signed) f (load_constant k) in omega (arith, e, h)
of_constant_weighs (Quotient signed) k f = let e = load_constant_weighs k in let h = helped_behind_weighs (division_helper signed) f (load_constant k) in omega (arith, e, h)
of_constant_weighs (Remainder signed) k f = let e = load_constant_weighs k in let h = helped_behind_weighs (remainder_helper signed) f (load_constant k) in omega (arith, e, h)

pub of_place_weighs : (o : Arithmetic) (m : AccOperand) (f : Found) → WordWeighs (of_place o m f) (found_weight f + (operand_weight m + 12))
of_place_weighs Sum m f = made _ Any _ (behind_load f (Op (row.Add 0) m ▸ end) (operand_weight m) _ (omega arith) (omega arith))
of_place_weighs Difference m f = made _ Any _ (behind_load f (Op (row.Sub 0) m ▸ bare row.Neg ▸ end) (operand_weight m + 1) _ (omega arith) (omega arith))
of_place_weighs (Bits o) m f = made _ Any _ (behind_load f (Op (row_on_place o) m ▸ end) (operand_weight m) _ (place_row o m) (omega arith))
of_place_weighs Product m f = let h = multiply_weighs f m in omega (arith, h)
of_place_weighs LeftShift m f = made _ Any _ (both (store (scratch 0) f) (Op row.Lt (scratch 0) ▸ Op row.Lact m ▸ end) (found_weight f + 2) (operand_weight m + 2) _ (store_weighs (scratch 0) f) (omega arith) (omega arith))
of_place_weighs (RightShift signed) m f = made _ Any _ (helped_behind_weighs _ f (lac m))
of_place_weighs (Quotient signed) m f = made _ Any _ (helped_behind_weighs _ f (lac m))
of_place_weighs (Remainder signed) m f = made _ Any _ (helped_behind_weighs _ f (lac m))

-- comparisons
exactly_less_weighs : (h : HighHalf) (m : AccOperand) → Weighs (exactly_less h m) (operand_weight m + 2)
exactly_less_weighs Any m = omega arith
exactly_less_weighs Zero m = omega arith
exactly_less_weighs Sign m = omega arith
exactly_less_weighs Small m = omega arith

pub with_place_compared : (c : Comparison) (f : Found) (m : AccOperand) → Weighs (compared_with_place c f m).items (found_weight f + (operand_weight m + 4))
with_place_compared c f m = by c.order
  where
    by : (o : Order) → Weighs (items_with_place o f m) (found_weight f + (operand_weight m + 4))
    by Exact = behind_load f (exactly_less (high f) m) (operand_weight m + 2) _ (exactly_less_weighs (high f) m) (omega arith)
    by Signed = both (load_signed f) (sub m ▸ end) (found_weight f + 4) (operand_weight m) _ (load_signed_weighs f) (omega arith) (omega arith)
    by Unsigned = both (load_unsigned f) (subs m ▸ end) (found_weight f + 2) (operand_weight m) _ (load_unsigned_weighs f) (omega arith) (omega arith)

masked_weighs : (k : Constant) → Weighs (minus k ⧺ low_half ▸ end) 4
masked_weighs k = both (minus k) (low_half ▸ end) 2 2 4 (minus_weighs k) (omega arith) (omega arith)

less_number_weighs : (h : HighHalf) (w : ℕ) → Weighs (exactly_less_number h w) 4
less_number_weighs Any w = masked_weighs (Number w)
less_number_weighs Zero w = one_of (nat_lt w 256) (Op row.Subk (operand.Number w) ▸ end) (Op row.Xork (operand.Number w) ▸ end) 4 (omega arith) (omega arith)
less_number_weighs Sign w = more (minus (Number w)) 2 4 (minus_weighs (Number w)) (omega arith)
less_number_weighs Small w = more (minus (Number w)) 2 4 (minus_weighs (Number w)) (omega arith)

less_constant_weighs : (h : HighHalf) (k : Constant) → Weighs (exactly_less_constant h k) 4
less_constant_weighs h (Number w) = less_number_weighs h w
less_constant_weighs Any (Address v n) = masked_weighs (Address v n)
less_constant_weighs Zero (Address v n) = masked_weighs (Address v n)
less_constant_weighs Sign (Address v n) = more (minus (Address v n)) 2 4 (minus_weighs (Address v n)) (omega arith)
less_constant_weighs Small (Address v n) = more (minus (Address v n)) 2 4 (minus_weighs (Address v n)) (omega arith)

exact_with_weighs : (f : Found) (k : Constant) → Weighs (exact_with f k) (found_weight f + 8)
exact_with_weighs f (Address v n) = behind_load f (exactly_less_constant (high f) (Address v n)) 4 8 (less_constant_weighs (high f) (Address v n)) (omega arith)
exact_with_weighs f (Number n) =
    one_of (n == 0) (load_clean f) (load f ⧺ exactly_less_constant (high f) (Number n)) (found_weight f + 8) (more (load_clean f) (found_weight f + 2) (found_weight f + 8) (load_clean_weighs f) (omega arith)) (behind_load f (exactly_less_constant (high f) (Number n)) 4 8 (less_constant_weighs (high f) (Number n)) (omega arith))

less_unsigned_weighs : (w : ℕ) → Weighs (less_unsigned w) 4
less_unsigned_weighs w =
    let rest : ItemList = if w % 2 == 0 then end else Op row.Subk (operand.Number 1) ▸ end in
    let odd = one_of (w % 2 == 0) end (Op row.Subk (operand.Number 1) ▸ end) 2 (omega arith) (omega arith) in
    let large : ItemList = Op (row.Sblk 1) (operand.Number (w / 2)) ▸ rest in
    let mean : ItemList = if nat_lt w 32768 then Op (row.Sblk 0) (operand.Number w) ▸ end else large in
    one_of (w == 0) end (if nat_lt w 256 then Op row.Subk (operand.Number w) ▸ end else mean) 4 (omega arith)
    (one_of (nat_lt w 256) (Op row.Subk (operand.Number w) ▸ end) mean 4 (omega arith)
    (one_of (nat_lt w 32768) (Op (row.Sblk 0) (operand.Number w) ▸ end) large 4 (omega arith) (omega (arith, odd))))

pub with_constant_compared : (c : Comparison) (f : Found) (k : Constant) → Weighs (compared_with_constant c f k).items (found_weight f + 8)
with_constant_compared c f k = by c.order k
  where
    by : (o : Order) (k : Constant) → Weighs (items_with_constant o f k) (found_weight f + 8)
    by Exact k = exact_with_weighs f k
    by Signed k = both (load_signed f) (minus k) (found_weight f + 4) 2 _ (load_signed_weighs f) (minus_weighs k) (omega arith)
    by Unsigned (Number n) = both (load_unsigned f) (less_unsigned n) (found_weight f + 2) 4 _ (load_unsigned_weighs f) (less_unsigned_weighs n) (omega arith)
    by Unsigned (Address v n) = both (store (scratch 0) f) (Op (row.Lalk 0) (operand.Address v n) ▸ low_half ▸ subs (scratch 0) ▸ end) (found_weight f + 2) 6 _ (store_weighs (scratch 0) f) (omega arith) (omega arith)

pub of_constant_compared : (c : Comparison) (k : Constant) (f : Found) → Weighs (compared_of_constant c k f).items (found_weight f + 8)
of_constant_compared c k f = with_constant_compared (swapped_comparison c) f k

pub of_place_compared : (c : Comparison) (m : AccOperand) (f : Found) → Weighs (compared_of_place c m f).items (found_weight f + (operand_weight m + 4))
of_place_compared c m f = by c.order (high f)
  where
    kept : (x y : Item) → item_weight x ≡ operand_weight m → item_weight y ≡ 2 → Weighs (store (scratch 0) f ⧺ x ▸ y ▸ end) (found_weight f + (operand_weight m + 4))
    kept x y hx hy = both (store (scratch 0) f) (x ▸ y ▸ end) (found_weight f + 2) (operand_weight m + 2) _ (store_weighs (scratch 0) f) (omega (arith, hx, hy)) (omega arith)

    by : (o : Order) (h : HighHalf) → Weighs (items_of_place o m f h) (found_weight f + (operand_weight m + 4))
    by Exact h = behind_load f (exactly_less h m) (operand_weight m + 2) _ (exactly_less_weighs h m) (omega arith)
    by Signed Any = kept (lac m) (sub (scratch 0)) refl refl
    by Signed Zero = kept (lac m) (sub (scratch 0)) refl refl
    by Signed Sign = behind_load f (sub m ▸ end) (operand_weight m) _ (omega arith) (omega arith)
    by Signed Small = behind_load f (sub m ▸ end) (operand_weight m) _ (omega arith) (omega arith)
    by Unsigned Any = kept (Op row.Zals m) (subs (scratch 0)) refl refl
    by Unsigned Zero = behind_load f (subs m ▸ end) (operand_weight m) _ (omega arith) (omega arith)
    by Unsigned Sign = kept (Op row.Zals m) (subs (scratch 0)) refl refl
    by Unsigned Small = behind_load f (subs m ▸ end) (operand_weight m) _ (omega arith) (omega arith)
