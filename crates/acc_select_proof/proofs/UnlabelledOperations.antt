-- No label stands directly among the items of an operation.
use Rattle.std.proofs.Common.{◌≡◌, refl, ℕ, zero, suc, ◌-◌, Bool, true, false, []}
use Rattle.std.specs.Prelude.{◌==◌, ◌%◌, nat_lt, if◌then◌else◌}
use Rattle.acc_code.specs.AccTree.{Op, Case, ItemList, end, item, ◌▸◌, ◌⧺◌}
use Rattle.acc_code.specs.Emittable.{cases_in}
use Rattle.acc_code.specs.Operands.{has_13_bits}
use Rattle.acc_code.specs.declared.operand.AccOperand.{AccOperand}
use Rattle.acc_code.specs.declared.operand.AccOperand.TheVariants as operand
use Rattle.acc_code.specs.declared.operand.HelperName.{HelperName}
use Rattle.acc_code.specs.declared.operation.AccOp.{AccOp}
use Rattle.acc_code.specs.declared.operation.AccOp.TheVariants as row
use Rattle.acc_select.specs.acc_operations.Arithmetic.{times, multiply, product_with_place, helped, with_place, shifted_right, with_constant, helped_behind, of_constant, of_place, shift_helper, division_helper, remainder_helper}
use Rattle.acc_select.specs.acc_operations.Comparisons.{exactly_less, exactly_less_number, exactly_less_constant, exact_with, less_unsigned, items_with_place, items_with_constant, items_of_place}
use Rattle.acc_select.specs.acc_operations.Constants.{load_constant, negative}
use Rattle.acc_select.specs.acc_operations.Sums.{by_constant, plus, minus, repeated, count_of, moved_left, shift_left, moved_right, moved_right_signed, shift_right_signed, shift_right_unsigned, by_helper}
use Rattle.acc_select.specs.acc_operations.Words.{Word, scratch, lac, bare, load, high, loaded, store, load_t, extend, clear_high, clean, load_signed, load_unsigned, load_clean}
use Rattle.acc_select.specs.acc_operations.declared.comparison.Order.{Order}
use Rattle.acc_select.specs.acc_operations.declared.comparison.Order.TheVariants.{Exact, Signed, Unsigned}
use Rattle.acc_select.specs.acc_operations.declared.constant.Constant.{Constant}
use Rattle.acc_select.specs.acc_operations.declared.constant.Constant.TheVariants.{Number, Address}
use Rattle.acc_select.specs.acc_operations.declared.found.Found.{Found}
use Rattle.acc_select.specs.acc_operations.declared.found.Found.TheVariants.{Fixed, Held, Loaded}
use Rattle.acc_select.specs.acc_operations.declared.high_half.HighHalf.{HighHalf}
use Rattle.acc_select.specs.acc_operations.declared.high_half.HighHalf.TheVariants.{Any, Zero, Sign, Small}
use Rattle.acc_select.specs.acc_operations.declared.operation.Arithmetic.{Arithmetic}
use Rattle.acc_select.specs.acc_operations.declared.operation.Arithmetic.TheVariants.{Sum, Difference, Bits, Product, LeftShift, RightShift, Quotient, Remainder}

-- no label stands directly among these items
pub record Unlabelled (xs : ItemList) : Type 0 where
  pub none : cases_in xs ≡ []

pub nothing : Unlabelled end
nothing = record { none = refl }

pub op : {o : AccOp} {m : AccOperand} {xs : ItemList} → Unlabelled xs → Unlabelled (Op o m ▸ xs)
op h = record { none = h.none }

none_joined : (xs ys : ItemList) → cases_in xs ≡ [] → cases_in ys ≡ [] → cases_in (xs ⧺ ys) ≡ []
none_joined end ys h k = k
none_joined (item (Case n) xs) ys h k = absurd cc
none_joined (item x xs) ys h k = none_joined xs ys h k

pub both : {xs ys : ItemList} → Unlabelled xs → Unlabelled ys → Unlabelled (xs ⧺ ys)
both {xs} {ys} h k = record { none = none_joined xs ys h.none k.none }

pub either : (b : Bool) {xs ys : ItemList} → Unlabelled xs → Unlabelled ys → Unlabelled (if b then xs else ys)
either true h k = h
either false h k = k

-- words
pub constant_first : (k : Constant) {xs : ItemList} → Unlabelled xs → Unlabelled (load_constant k ▸ xs)
constant_first (Address v n) h = op h
constant_first (Number w) {xs} h = by_size (nat_lt w 256)
  where
    by_size : (b : Bool) → Unlabelled (item (if b then Op row.Lack (operand.Number w) else Op (row.Lalk 0) (operand.Number w)) xs)
    by_size true = op h
    by_size false = op h

pub load_none : (f : Found) → Unlabelled (load f)
load_none (Fixed k) = constant_first k nothing
load_none (Held m) = op nothing
load_none (Loaded h) = nothing

pub loaded_none : (w : Word) → Unlabelled w.items → Unlabelled (loaded w)
loaded_none w h = both h (load_none w.found)

pub store_none : (m : AccOperand) (f : Found) → Unlabelled (store m f)
store_none m f = both (load_none f) (op nothing)

load_t_none : (f : Found) → Unlabelled (load_t f)
load_t_none (Fixed k) = constant_first k (op (op nothing))
load_t_none (Held m) = op nothing
load_t_none (Loaded h) = op (op nothing)

pub extend_none : (h : HighHalf) → Unlabelled (extend h)
extend_none Any = op (op nothing)
extend_none Zero = op (op nothing)
extend_none Sign = nothing
extend_none Small = nothing

pub clear_none : (h : HighHalf) → Unlabelled (clear_high h)
clear_none Any = op nothing
clear_none Zero = nothing
clear_none Sign = op nothing
clear_none Small = nothing

clean_none : (h : HighHalf) → Unlabelled (clean h)
clean_none Any = op nothing
clean_none Zero = nothing
clean_none Sign = nothing
clean_none Small = nothing

load_signed_none : (f : Found) → Unlabelled (load_signed f)
load_signed_none f = both (load_none f) (extend_none (high f))

load_unsigned_none : (f : Found) → Unlabelled (load_unsigned f)
load_unsigned_none f = both (load_none f) (clear_none (high f))

pub load_clean_none : (f : Found) → Unlabelled (load_clean f)
load_clean_none f = both (load_none f) (clean_none (high f))

-- sums and shifts
by_constant_none : (small opposite any : AccOp) (k : Constant) → Unlabelled (by_constant small opposite any k)
by_constant_none small opposite any (Address v n) = op nothing
by_constant_none small opposite any (Number w) = either (w == 0) nothing (either (nat_lt w 256) (op nothing) (either (nat_lt (negative w) 256) (op nothing) (op nothing)))

plus_none : (k : Constant) → Unlabelled (plus k)
plus_none k = by_constant_none row.Addk row.Subk (row.Adlk 0) k

minus_none : (k : Constant) → Unlabelled (minus k)
minus_none k = by_constant_none row.Subk row.Addk (row.Sblk 0) k

repeated_none : (n : ℕ) (o : AccOp) → Unlabelled (repeated n (bare o))
repeated_none zero o = nothing
repeated_none (suc n) o = op (repeated_none n o)

moved_left_none : (f : Found) (n : ℕ) → Unlabelled (moved_left f n)
moved_left_none f n = either (nat_lt n 4) (both (load_none f) (repeated_none n row.Sfl)) (both (store_none (scratch 0) f) (op nothing))

shift_left_none : (f : Found) (n : ℕ) → Unlabelled (shift_left f n)
shift_left_none (Fixed k) n = moved_left_none (Fixed k) n
shift_left_none (Held m) n = op nothing
shift_left_none (Loaded h) n = moved_left_none (Loaded h) n

moved_right_none : (o : AccOp) (m : AccOperand) (n : ℕ) → Unlabelled (moved_right (Op o m) n)
moved_right_none o m n = either (nat_lt n 6) (repeated_none n row.Sfr) (either (nat_lt n 9) (both (repeated_none (9 - n) row.Sfl) (op (op nothing))) (op (op nothing)))

moved_right_signed_none : (f : Found) (n : ℕ) → Unlabelled (moved_right_signed f n)
moved_right_signed_none f n = both (load_signed_none f) (moved_right_none (row.Lac 0) (scratch 0) n)

shift_right_signed_none : (f : Found) (n : ℕ) → Unlabelled (shift_right_signed f n)
shift_right_signed_none (Fixed k) n = moved_right_signed_none (Fixed k) n
shift_right_signed_none (Held m) n = either (nat_lt n 3) (moved_right_signed_none (Held m) n) (op (op (op nothing)))
shift_right_signed_none (Loaded h) n = moved_right_signed_none (Loaded h) n

shift_right_unsigned_none : (f : Found) (n : ℕ) → Unlabelled (shift_right_unsigned f n)
shift_right_unsigned_none f n = both (load_unsigned_none f) (moved_right_none row.Zals (scratch 0) n)

helper_none : (name : HelperName) → Unlabelled (by_helper name)
helper_none name = record { none = refl }

-- products
times_none : (k : Constant) → Unlabelled (times k)
times_none (Number w) = either (has_13_bits w) (op (op nothing)) (constant_first (Number w) (op (op (op nothing))))
times_none (Address v n) = constant_first (Address v n) (op (op (op nothing)))

multiply_none : (f : Found) (m : AccOperand) → Unlabelled (multiply f m)
multiply_none f m = both (load_t_none f) (op (op nothing))

product_none : (f : Found) (m : AccOperand) → Unlabelled (product_with_place f m)
product_none (Fixed (Number w)) m = either (has_13_bits w) (op (times_none (Number w))) (multiply_none (Fixed (Number w)) m)
product_none f m = multiply_none f m

-- operations
helped_none : (name : HelperName) (n : ℕ) (f : Found) {xs : ItemList} → Unlabelled xs → Unlabelled (store (scratch n) f ⧺ xs)
helped_none name n f h = both (store_none (scratch n) f) h

with_word : (name : HelperName) (f : Found) (m : AccOperand) → Unlabelled (helped name f (lac m)).items
with_word name f m = helped_none name 0 f (op (op (helper_none name)))

with_number : (name : HelperName) (f : Found) (k : Constant) → Unlabelled (helped name f (load_constant k)).items
with_number name f k = helped_none name 0 f (constant_first k (op (helper_none name)))

behind_word : (name : HelperName) (f : Found) (m : AccOperand) → Unlabelled (helped_behind name f (lac m)).items
behind_word name f m = helped_none name 1 f (op (op (helper_none name)))

behind_number : (name : HelperName) (f : Found) (k : Constant) → Unlabelled (helped_behind name f (load_constant k)).items
behind_number name f k = helped_none name 1 f (constant_first k (op (helper_none name)))

pub with_place_none : (o : Arithmetic) (f : Found) (m : AccOperand) → Unlabelled (with_place o f m).items
with_place_none Sum f m = both (load_none f) (op nothing)
with_place_none Difference f m = both (load_none f) (op nothing)
with_place_none (Bits o) f m = both (load_none f) (op nothing)
with_place_none Product f m = product_none f m
with_place_none LeftShift f m = both (store_none (scratch 0) f) (op (op nothing))
with_place_none (RightShift signed) f m = with_word (shift_helper signed) f m
with_place_none (Quotient signed) f m = with_word (division_helper signed) f m
with_place_none (Remainder signed) f m = with_word (remainder_helper signed) f m

shifted_right_none : (signed : Bool) (f : Found) (n : ℕ) → Unlabelled (shifted_right signed f n).items
shifted_right_none true f n = shift_right_signed_none f n
shifted_right_none false f n = shift_right_unsigned_none f n

pub with_constant_none : (o : Arithmetic) (f : Found) (k : Constant) → Unlabelled (with_constant o f k).items
with_constant_none Sum f k = both (load_none f) (plus_none k)
with_constant_none Difference f k = both (load_none f) (minus_none k)
with_constant_none (Bits o) f k = both (load_none f) (op nothing)
with_constant_none Product f k = both (load_t_none f) (times_none k)
with_constant_none LeftShift f k = shift_left_none f (count_of k)
with_constant_none (RightShift signed) f k = shifted_right_none signed f (count_of k)
with_constant_none (Quotient signed) f k = with_number (division_helper signed) f k
with_constant_none (Remainder signed) f k = with_number (remainder_helper signed) f k

pub of_constant_none : (o : Arithmetic) (k : Constant) (f : Found) → Unlabelled (of_constant o k f).items
of_constant_none Sum k f = both (load_none f) (plus_none k)
of_constant_none Difference k f = both (load_none f) (op (plus_none k))
of_constant_none (Bits o) k f = both (load_none f) (op nothing)
of_constant_none Product k f = both (load_t_none f) (times_none k)
of_constant_none LeftShift k f = both (store_none (scratch 0) f) (op (constant_first k (op (op nothing))))
of_constant_none (RightShift signed) k f = behind_number (shift_helper signed) f k
of_constant_none (Quotient signed) k f = behind_number (division_helper signed) f k
of_constant_none (Remainder signed) k f = behind_number (remainder_helper signed) f k

pub of_place_none : (o : Arithmetic) (m : AccOperand) (f : Found) → Unlabelled (of_place o m f).items
of_place_none Sum m f = both (load_none f) (op nothing)
of_place_none Difference m f = both (load_none f) (op (op nothing))
of_place_none (Bits o) m f = both (load_none f) (op nothing)
of_place_none Product m f = multiply_none f m
of_place_none LeftShift m f = both (store_none (scratch 0) f) (op (op nothing))
of_place_none (RightShift signed) m f = behind_word (shift_helper signed) f m
of_place_none (Quotient signed) m f = behind_word (division_helper signed) f m
of_place_none (Remainder signed) m f = behind_word (remainder_helper signed) f m

-- comparisons
exactly_less_none : (h : HighHalf) (m : AccOperand) → Unlabelled (exactly_less h m)
exactly_less_none Any m = op (op nothing)
exactly_less_none Zero m = op nothing
exactly_less_none Sign m = op nothing
exactly_less_none Small m = op nothing

less_number_none : (h : HighHalf) (w : ℕ) → Unlabelled (exactly_less_number h w)
less_number_none Any w = both (minus_none (Number w)) (op nothing)
less_number_none Zero w = either (nat_lt w 256) (op nothing) (op nothing)
less_number_none Sign w = minus_none (Number w)
less_number_none Small w = minus_none (Number w)

less_constant_none : (h : HighHalf) (k : Constant) → Unlabelled (exactly_less_constant h k)
less_constant_none h (Number w) = less_number_none h w
less_constant_none Any (Address v n) = both (minus_none (Address v n)) (op nothing)
less_constant_none Zero (Address v n) = both (minus_none (Address v n)) (op nothing)
less_constant_none Sign (Address v n) = minus_none (Address v n)
less_constant_none Small (Address v n) = minus_none (Address v n)

exact_none : (f : Found) (k : Constant) → Unlabelled (exact_with f k)
exact_none f (Address v n) = both (load_none f) (less_constant_none (high f) (Address v n))
exact_none f (Number n) = either (n == 0) (load_clean_none f) (both (load_none f) (less_constant_none (high f) (Number n)))

less_unsigned_none : (w : ℕ) → Unlabelled (less_unsigned w)
less_unsigned_none w = either (w == 0) nothing (either (nat_lt w 256) (op nothing) (either (nat_lt w 32768) (op nothing) (op (either (w % 2 == 0) nothing (op nothing)))))

pub items_with_place_none : (o : Order) (f : Found) (m : AccOperand) → Unlabelled (items_with_place o f m)
items_with_place_none Exact f m = both (load_none f) (exactly_less_none (high f) m)
items_with_place_none Signed f m = both (load_signed_none f) (op nothing)
items_with_place_none Unsigned f m = both (load_unsigned_none f) (op nothing)

pub items_with_constant_none : (o : Order) (f : Found) (k : Constant) → Unlabelled (items_with_constant o f k)
items_with_constant_none Exact f k = exact_none f k
items_with_constant_none Signed f k = both (load_signed_none f) (minus_none k)
items_with_constant_none Unsigned f (Number n) = both (load_unsigned_none f) (less_unsigned_none n)
items_with_constant_none Unsigned f (Address v n) = both (store_none (scratch 0) f) (op (op (op nothing)))

pub items_of_place_none : (o : Order) (m : AccOperand) (f : Found) (h : HighHalf) → Unlabelled (items_of_place o m f h)
items_of_place_none Exact m f h = both (load_none f) (exactly_less_none h m)
items_of_place_none Signed m f Any = both (store_none (scratch 0) f) (op (op nothing))
items_of_place_none Signed m f Zero = both (store_none (scratch 0) f) (op (op nothing))
items_of_place_none Signed m f Sign = both (load_none f) (op nothing)
items_of_place_none Signed m f Small = both (load_none f) (op nothing)
items_of_place_none Unsigned m f Any = both (store_none (scratch 0) f) (op (op nothing))
items_of_place_none Unsigned m f Zero = both (load_none f) (op nothing)
items_of_place_none Unsigned m f Sign = both (store_none (scratch 0) f) (op (op nothing))
items_of_place_none Unsigned m f Small = both (load_none f) (op nothing)
