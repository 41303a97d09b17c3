-- The accesses of operations and comparisons, by what their operands are: those of one operand, then those of the other, and a cut where a
-- routine does it.
use Rattle.std.proofs.Common.{◌≡◌, refl, ap, ◌∙◌, ℕ, ◌-◌, ◌/◌, ◌%◌, Bool, true, false}
use Rattle.std.specs.Prelude.{nat_lt, ◌==◌, if◌then◌else◌}
use Rattle.acc_code.specs.AccSequence.{Rest, cut, operand_accesses, item_accesses}
use Rattle.acc_code.specs.AccTree.{Item, Op, ItemList, end, ◌▸◌, ◌⧺◌}
use Rattle.acc_code.specs.Operands.{has_13_bits}
use Rattle.acc_code.specs.declared.operand.AccOperand.{AccOperand}
use Rattle.acc_code.specs.declared.operand.AccOperand.TheVariants as operand
use Rattle.acc_code.specs.declared.operand.HelperName.{HelperName}
use Rattle.acc_code.specs.declared.operation.AccOp.{AccOp}
use Rattle.acc_code.specs.declared.operation.AccOp.TheVariants as row
use Rattle.acc_select.specs.acc_operations.Arithmetic.{row_on_place, row_on_constant, times_place, times, multiply, product_with_place, helped, helped_behind, shifted_right, with_place, with_constant, of_constant, of_place}
use Rattle.acc_select.specs.acc_operations.Comparisons.{exactly_less, exactly_less_number, exactly_less_constant, exact_with, less_unsigned, items_with_place, items_with_constant, items_of_place, compared_with_place, compared_with_constant, compared_of_constant, compared_of_place, sub, subs, low_half}
use Rattle.acc_select.specs.acc_operations.Constants.{load_constant, constant_operand}
use Rattle.acc_select.specs.acc_operations.Kinds.{swapped_comparison}
use Rattle.acc_select.specs.acc_operations.Sums.{plus, minus, count_of, repeated, moved_left, shift_left, moved_right, moved_right_signed, shift_right_signed, shift_right_unsigned, by_helper}
use Rattle.acc_select.specs.acc_operations.Words.{lac, sacl, bare, load, high, store, load_t, load_signed, load_unsigned, load_clean, scratch}
use Rattle.acc_select.specs.acc_operations.declared.comparison.Comparison.{Comparison}
use Rattle.acc_select.specs.acc_operations.declared.comparison.Order.{Order}
use Rattle.acc_select.specs.acc_operations.declared.comparison.Order.TheVariants.{Exact, Signed, Unsigned}
use Rattle.acc_select.specs.acc_operations.declared.constant.Constant.{Constant}
use Rattle.acc_select.specs.acc_operations.declared.constant.Constant.TheVariants.{Number, Address}
use Rattle.acc_select.specs.acc_operations.declared.found.Found.{Found}
use Rattle.acc_select.specs.acc_operations.declared.found.Found.TheVariants.{Fixed, Held, Loaded}
use Rattle.acc_select.specs.acc_operations.declared.high_half.HighHalf.{HighHalf}
use Rattle.acc_select.specs.acc_operations.declared.high_half.HighHalf.TheVariants.{Any, Zero, Sign, Small}
use Rattle.acc_select.specs.acc_operations.declared.operation.Arithmetic.{Arithmetic}
use Rattle.acc_select.specs.acc_operations.declared.operation.Arithmetic.TheVariants.{Sum, Difference, Bits, Product, LeftShift, RightShift, Quotient, Remainder}
use Rattle.acc_select.specs.acc_operations.declared.operation.Operation.TheVariants as operation
use Rattle.acc_select.proofs.RoutineLemmas.{by_routine}
use Rattle.acc_select_proof.specs.Listed.{Marks, cut_where}
use Rattle.acc_select_proof.proofs.Marking.{Has, WordHas, in_turn, one_of, nothing, load_constant_has, found_accesses, load_has, store_has, load_t_has, load_signed_has, load_unsigned_has, load_clean_has, plus_has, minus_has, repeated_has}

-- products with constants
times_has : (k : Constant) → Has (times k) nothing
times_has (Number w) κ =
    one_of (has_13_bits w) (Op row.Mpyk (operand.Number w) ▸ bare row.Pac ▸ end) (load_constant (Number w) ▸ sacl (scratch 0) ▸ times_place (scratch 0)) nothing (λ κ. refl) (λ κ. load_constant_has (Number w) κ) κ
times_has (Address v n) κ = refl

multiply_has : (f : Found) (m : AccOperand) → Has (multiply f m) (λ κ. found_accesses f (operand_accesses m κ))
multiply_has f m = in_turn (load_t f) (times_place m) (found_accesses f) (operand_accesses m) (load_t_has f) (λ κ. refl)

product_has : (f : Found) (m : AccOperand) → Has (product_with_place f m) (λ κ. found_accesses f (operand_accesses m κ))
product_has (Fixed (Number w)) m =
    one_of (has_13_bits w) (Op row.Lt m ▸ times (Number w)) (multiply (Fixed (Number w)) m) (operand_accesses m) (λ κ. ap (operand_accesses m) (times_has (Number w) κ)) (multiply_has (Fixed (Number w)) m)
product_has (Fixed (Address v n)) m = multiply_has (Fixed (Address v n)) m
product_has (Held n) m = multiply_has (Held n) m
product_has (Loaded h) m = multiply_has (Loaded h) m

-- shifts by constants
moved_left_has : (f : Found) (n : ℕ) → Has (moved_left f n) (found_accesses f)
moved_left_has f n =
    one_of (nat_lt n 4) (load f ⧺ repeated n (bare row.Sfl)) (store (scratch 0) f ⧺ Op (row.Lac n) (scratch 0) ▸ end) (found_accesses f)
    (in_turn (load f) (repeated n (bare row.Sfl)) (found_accesses f) nothing (load_has f) (repeated_has n row.Sfl))
    (in_turn (store (scratch 0) f) (Op (row.Lac n) (scratch 0) ▸ end) (found_accesses f) nothing (store_has (scratch 0) f) (λ κ. refl))

shift_left_has : (f : Found) (n : ℕ) → Has (shift_left f n) (found_accesses f)
shift_left_has (Fixed k) n = moved_left_has (Fixed k) n
shift_left_has (Held m) n = λ κ. refl
shift_left_has (Loaded h) n = moved_left_has (Loaded h) n

moved_right_has : (reload : Item) (n : ℕ) → ((κ : Rest) → item_accesses reload κ ≡ κ) → Has (moved_right reload n) nothing
moved_right_has reload n h =
    one_of (nat_lt n 6) (repeated n (bare row.Sfr)) (if nat_lt n 9 then repeated (9 - n) (bare row.Sfl) ⧺ Op (row.Sach 7) (scratch 0) ▸ reload ▸ end else Op (row.Sach (16 - n)) (scratch 0) ▸ reload ▸ end) nothing
    (repeated_has n row.Sfr)
    (one_of (nat_lt n 9) (repeated (9 - n) (bare row.Sfl) ⧺ Op (row.Sach 7) (scratch 0) ▸ reload ▸ end) (Op (row.Sach (16 - n)) (scratch 0) ▸ reload ▸ end) nothing
    (in_turn (repeated (9 - n) (bare row.Sfl)) (Op (row.Sach 7) (scratch 0) ▸ reload ▸ end) nothing nothing (repeated_has (9 - n) row.Sfl) (λ κ. h κ)) (λ κ. h κ))

moved_right_signed_has : (f : Found) (n : ℕ) → Has (moved_right_signed f n) (found_accesses f)
moved_right_signed_has f n = in_turn (load_signed f) (moved_right (lac (scratch 0)) n) (found_accesses f) nothing (load_signed_has f) (moved_right_has (lac (scratch 0)) n (λ κ. refl))

shift_right_signed_has : (f : Found) (n : ℕ) → Has (shift_right_signed f n) (found_accesses f)
shift_right_signed_has (Fixed k) n = moved_right_signed_has (Fixed k) n
shift_right_signed_has (Held m) n =
    one_of (nat_lt n 3) (moved_right_signed (Held m) n) (Op (row.Lac (16 - n)) m ▸ Op (row.Sach 0) (scratch 0) ▸ lac (scratch 0) ▸ end) (operand_accesses m) (moved_right_signed_has (Held m) n) (λ κ. refl)
shift_right_signed_has (Loaded h) n = moved_right_signed_has (Loaded h) n

shift_right_unsigned_has : (f : Found) (n : ℕ) → Has (shift_right_unsigned f n) (found_accesses f)
shift_right_unsigned_has f n = in_turn (load_unsigned f) (moved_right (Op row.Zals (scratch 0)) n) (found_accesses f) nothing (load_unsigned_has f) (moved_right_has (Op row.Zals (scratch 0)) n (λ κ. refl))

shifted_right_has : (signed : Bool) (f : Found) (n : ℕ) → WordHas (shifted_right signed f n) (found_accesses f)
shifted_right_has true f n = shift_right_signed_has f n
shifted_right_has false f n = shift_right_unsigned_has f n

-- a routine, behind both operands
helped_has : (name : HelperName) (f : Found) (x : Item) (g : Marks) → ((κ : Rest) → item_accesses x κ ≡ g κ) → Has (helped name f x).items (λ κ. found_accesses f (g (cut κ)))
helped_has name f x g h = in_turn (store (scratch 0) f) (x ▸ sacl (scratch 1) ▸ by_helper name) (found_accesses f) (λ κ. g (cut κ)) (store_has (scratch 0) f) (λ κ. h (cut κ))

helped_behind_has : (name : HelperName) (f : Found) (x : Item) (g : Marks) → ((κ : Rest) → item_accesses x κ ≡ g κ) → Has (helped_behind name f x).items (λ κ. found_accesses f (g (cut κ)))
helped_behind_has name f x g h = in_turn (store (scratch 1) f) (x ▸ sacl (scratch 0) ▸ by_helper name) (found_accesses f) (λ κ. g (cut κ)) (store_has (scratch 1) f) (λ κ. h (cut κ))

-- behind a found word, some items
behind_load : (f : Found) (xs : ItemList) (g : Marks) → Has xs g → Has (load f ⧺ xs) (λ κ. found_accesses f (g κ))
behind_load f xs g h = in_turn (load f) xs (found_accesses f) g (load_has f) h

abbrev pub routine : Arithmetic → Bool → Bool
routine o constant = by_routine (operation.Word o) constant

pub with_place_has : (o : Arithmetic) (f : Found) (m : AccOperand) → WordHas (with_place o f m) (λ κ. found_accesses f (operand_accesses m (cut_where (routine o false) κ)))
with_place_has Sum f m = behind_load f (Op (row.Add 0) m ▸ end) (operand_accesses m) (λ κ. refl)
with_place_has Difference f m = behind_load f (Op (row.Sub 0) m ▸ end) (operand_accesses m) (λ κ. refl)
with_place_has (Bits o) f m = behind_load f (Op (row_on_place o) m ▸ end) (operand_accesses m) (λ κ. refl)
with_place_has Product f m = product_has f m
with_place_has LeftShift f m = in_turn (store (scratch 0) f) (Op row.Lt m ▸ Op row.Lact (scratch 0) ▸ end) (found_accesses f) (operand_accesses m) (store_has (scratch 0) f) (λ κ. refl)
with_place_has (RightShift signed) f m = helped_has _ f (lac m) (operand_accesses m) (λ κ. refl)
with_place_has (Quotient signed) f m = helped_has _ f (lac m) (operand_accesses m) (λ κ. refl)
with_place_has (Remainder signed) f m = helped_has _ f (lac m) (operand_accesses m) (λ κ. refl)

constant_none : (o : AccOp) (k : Constant) (κ : Rest) → item_accesses (Op o (constant_operand k)) κ ≡ κ
constant_none o (Number w) κ = refl
constant_none o (Address v n) κ = refl

pub with_constant_has : (o : Arithmetic) (f : Found) (k : Constant) → WordHas (with_constant o f k) (λ κ. found_accesses f (cut_where (routine o true) κ))
with_constant_has Sum f k = behind_load f (plus k) nothing (plus_has k)
with_constant_has Difference f k = behind_load f (minus k) nothing (minus_has k)
with_constant_has (Bits o) f k = behind_load f (Op (row_on_constant o) (constant_operand k) ▸ end) nothing (constant_none (row_on_constant o) k)
with_constant_has Product f k = in_turn (load_t f) (times k) (found_accesses f) nothing (load_t_has f) (times_has k)
with_constant_has LeftShift f k = shift_left_has f (count_of k)
with_constant_has (RightShift signed) f k = shifted_right_has signed f (count_of k)
with_constant_has (Quotient signed) f k = helped_has _ f (load_constant k) nothing (load_constant_has k)
with_constant_has (Remainder signed) f k = helped_has _ f (load_constant k) nothing (load_constant_has k)

-- a constant left operand, where the right one was computed
pub of_constant_has : (o : Arithmetic) (k : Constant) (f : Found) → WordHas (of_constant o k f) (λ κ. found_accesses f (cut_where (routine o false) κ))
of_constant_has Sum k f = behind_load f (plus k) nothing (plus_has k)
of_constant_has Difference k f = behind_load f (bare row.Neg ▸ plus k) nothing (plus_has k)
of_constant_has (Bits o) k f = behind_load f (Op (row_on_constant o) (constant_operand k) ▸ end) nothing (constant_none (row_on_constant o) k)
of_constant_has Product k f = in_turn (load_t f) (times k) (found_accesses f) nothing (load_t_has f) (times_has k)
of_constant_has LeftShift k f =
    in_turn (store (scratch 0) f) (Op row.Lt (scratch 0) ▸ load_constant k ▸ sacl (scratch 0) ▸ Op row.Lact (scratch 0) ▸ end) (found_accesses f) nothing (store_has (scratch 0) f) (λ κ. load_constant_has k κ)
of_constant_has (RightShift signed) k f = helped_behind_has _ f (load_constant k) nothing (load_constant_has k)
of_constant_has (Quotient signed) k f = helped_behind_has _ f (load_constant k) nothing (load_constant_has k)
of_constant_has (Remainder signed) k f = helped_behind_has _ f (load_constant k) nothing (load_constant_has k)

pub of_place_has : (o : Arithmetic) (m : AccOperand) (f : Found) → WordHas (of_place o m f) (λ κ. found_accesses f (operand_accesses m (cut_where (routine o false) κ)))
of_place_has Sum m f = behind_load f (Op (row.Add 0) m ▸ end) (operand_accesses m) (λ κ. refl)
of_place_has Difference m f = behind_load f (Op (row.Sub 0) m ▸ bare row.Neg ▸ end) (operand_accesses m) (λ κ. refl)
of_place_has (Bits o) m f = behind_load f (Op (row_on_place o) m ▸ end) (operand_accesses m) (λ κ. refl)
of_place_has Product m f = multiply_has f m
of_place_has LeftShift m f = in_turn (store (scratch 0) f) (Op row.Lt (scratch 0) ▸ Op row.Lact m ▸ end) (found_accesses f) (operand_accesses m) (store_has (scratch 0) f) (λ κ. refl)
of_place_has (RightShift signed) m f = helped_behind_has _ f (lac m) (operand_accesses m) (λ κ. refl)
of_place_has (Quotient signed) m f = helped_behind_has _ f (lac m) (operand_accesses m) (λ κ. refl)
of_place_has (Remainder signed) m f = helped_behind_has _ f (lac m) (operand_accesses m) (λ κ. refl)

-- comparisons
exactly_less_has : (h : HighHalf) (m : AccOperand) → Has (exactly_less h m) (operand_accesses m)
exactly_less_has Any m κ = refl
exactly_less_has Zero m κ = refl
exactly_less_has Sign m κ = refl
exactly_less_has Small m κ = refl

pub with_place_compared : (c : Comparison) (f : Found) (m : AccOperand) → Has (compared_with_place c f m).items (λ κ. found_accesses f (operand_accesses m κ))
with_place_compared c f m = by c.order
  where
    by : (o : Order) → Has (items_with_place o f m) (λ κ. found_accesses f (operand_accesses m κ))
    by Exact = behind_load f (exactly_less (high f) m) (operand_accesses m) (exactly_less_has (high f) m)
    by Signed = in_turn (load_signed f) (sub m ▸ end) (found_accesses f) (operand_accesses m) (load_signed_has f) (λ κ. refl)
    by Unsigned = in_turn (load_unsigned f) (subs m ▸ end) (found_accesses f) (operand_accesses m) (load_unsigned_has f) (λ κ. refl)

masked_has : (k : Constant) → Has (minus k ⧺ low_half ▸ end) nothing
masked_has k = in_turn (minus k) (low_half ▸ end) nothing nothing (minus_has k) (λ κ. refl)

less_number_has : (h : HighHalf) (w : ℕ) → Has (exactly_less_number h w) nothing
less_number_has Any w = masked_has (Number w)
less_number_has Zero w = one_of (nat_lt w 256) (Op row.Subk (operand.Number w) ▸ end) (Op row.Xork (operand.Number w) ▸ end) nothing (λ κ. refl) (λ κ. refl)
less_number_has Sign w = minus_has (Number w)
less_number_has Small w = minus_has (Number w)

less_constant_has : (h : HighHalf) (k : Constant) → Has (exactly_less_constant h k) nothing
less_constant_has h (Number w) = less_number_has h w
less_constant_has Any (Address v n) = masked_has (Address v n)
less_constant_has Zero (Address v n) = masked_has (Address v n)
less_constant_has Sign (Address v n) = minus_has (Address v n)
less_constant_has Small (Address v n) = minus_has (Address v n)

exact_with_has : (f : Found) (k : Constant) → Has (exact_with f k) (found_accesses f)
exact_with_has f (Address v n) = behind_load f (exactly_less_constant (high f) (Address v n)) nothing (less_constant_has (high f) (Address v n))
exact_with_has f (Number n) =
    one_of (n == 0) (load_clean f) (load f ⧺ exactly_less_constant (high f) (Number n)) (found_accesses f) (load_clean_has f) (behind_load f (exactly_less_constant (high f) (Number n)) nothing (less_constant_has (high f) (Number n)))

less_unsigned_has : (w : ℕ) → Has (less_unsigned w) nothing
less_unsigned_has w =
    let rest : ItemList = if w % 2 == 0 then end else Op row.Subk (operand.Number 1) ▸ end in
    let odd = one_of (w % 2 == 0) end (Op row.Subk (operand.Number 1) ▸ end) nothing (λ κ. refl) (λ κ. refl) in
    let large : ItemList = Op (row.Sblk 1) (operand.Number (w / 2)) ▸ rest in
    let mean : ItemList = if nat_lt w 32768 then Op (row.Sblk 0) (operand.Number w) ▸ end else large in
    one_of (w == 0) end (if nat_lt w 256 then Op row.Subk (operand.Number w) ▸ end else mean) nothing (λ κ. refl)
    (one_of (nat_lt w 256) (Op row.Subk (operand.Number w) ▸ end) mean nothing (λ κ. refl)
    (one_of (nat_lt w 32768) (Op (row.Sblk 0) (operand.Number w) ▸ end) large nothing (λ κ. refl) (λ κ. odd κ)))

pub with_constant_compared : (c : Comparison) (f : Found) (k : Constant) → Has (compared_with_constant c f k).items (found_accesses f)
with_constant_compared c f k = by c.order k
  where
    by : (o : Order) (k : Constant) → Has (items_with_constant o f k) (found_accesses f)
    by Exact k = exact_with_has f k
    by Signed k = in_turn (load_signed f) (minus k) (found_accesses f) nothing (load_signed_has f) (minus_has k)
    by Unsigned (Number n) = in_turn (load_unsigned f) (less_unsigned n) (found_accesses f) nothing (load_unsigned_has f) (less_unsigned_has n)
    by Unsigned (Address v n) = in_turn (store (scratch 0) f) (Op (row.Lalk 0) (operand.Address v n) ▸ low_half ▸ subs (scratch 0) ▸ end) (found_accesses f) nothing (store_has (scratch 0) f) (λ κ. refl)

pub of_constant_compared : (c : Comparison) (k : Constant) (f : Found) → Has (compared_of_constant c k f).items (found_accesses f)
of_constant_compared c k f = with_constant_compared (swapped_comparison c) f k

pub of_place_compared : (c : Comparison) (m : AccOperand) (f : Found) → Has (compared_of_place c m f).items (λ κ. found_accesses f (operand_accesses m κ))
of_place_compared c m f = by c.order (high f)
  where
    kept : (x : Item) → ((κ : Rest) → item_accesses x κ ≡ operand_accesses m κ) → (y : Item) → ((κ : Rest) → item_accesses y κ ≡ κ)
        → Has (store (scratch 0) f ⧺ x ▸ y ▸ end) (λ κ. found_accesses f (operand_accesses m κ))
    kept x hx y hy = in_turn (store (scratch 0) f) (x ▸ y ▸ end) (found_accesses f) (operand_accesses m) (store_has (scratch 0) f) (λ κ. hx (item_accesses y κ) ∙ ap (operand_accesses m) (hy κ))

    by : (o : Order) (h : HighHalf) → Has (items_of_place o m f h) (λ κ. found_accesses f (operand_accesses m κ))
    by Exact h = behind_load f (exactly_less h m) (operand_accesses m) (exactly_less_has h m)
    by Signed Any = kept (lac m) (λ κ. refl) (sub (scratch 0)) (λ κ. refl)
    by Signed Zero = kept (lac m) (λ κ. refl) (sub (scratch 0)) (λ κ. refl)
    by Signed Sign = behind_load f (sub m ▸ end) (operand_accesses m) (λ κ. refl)
    by Signed Small = behind_load f (sub m ▸ end) (operand_accesses m) (λ κ. refl)
    by Unsigned Any = kept (Op row.Zals m) (λ κ. refl) (subs (scratch 0)) (λ κ. refl)
    by Unsigned Zero = behind_load f (subs m ▸ end) (operand_accesses m) (λ κ. refl)
    by Unsigned Sign = kept (Op row.Zals m) (λ κ. refl) (subs (scratch 0)) (λ κ. refl)
    by Unsigned Small = behind_load f (subs m ▸ end) (operand_accesses m) (λ κ. refl)
