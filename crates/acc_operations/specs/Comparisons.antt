-- Comparisons: the items that compare two words on all 32 bits of the accumulator, by what the operands are, and the test that holds where
-- the comparison does.
use Rattle.std.specs.Prelude.{ℕ, ◌==◌, ◌/◌, ◌%◌, if◌then◌else◌, nat_lt}
use Rattle.acc_code.specs.declared.operand.AccOperand.{AccOperand}
use Rattle.acc_code.specs.declared.operand.AccOperand.TheVariants as operand
use Rattle.acc_code.specs.declared.operation.AccOp.TheVariants as row
use Rattle.acc_code.specs.declared.operation.Test.{Test}
use Rattle.acc_code.specs.AccTree.{Item, Op, ItemList, end, ◌▸◌, ◌⧺◌}
use Rattle.acc_operations.specs.Words.{scratch, lac, load, high, store, load_signed, load_unsigned, load_clean}
use Rattle.acc_operations.specs.declared.found.Found.{Found}
use Rattle.acc_operations.specs.Sums.{minus}
use Rattle.acc_operations.specs.Kinds.{swapped, swapped_comparison}
use Rattle.acc_operations.specs.declared.comparison.Comparison.{Comparison}
use Rattle.acc_operations.specs.declared.comparison.Order.{Order}
use Rattle.acc_operations.specs.declared.comparison.Order.TheVariants.{Exact, Signed, Unsigned}
use Rattle.acc_operations.specs.declared.constant.Constant.{Constant}
use Rattle.acc_operations.specs.declared.constant.Constant.TheVariants.{Number, Address}
use Rattle.acc_operations.specs.declared.high_half.HighHalf.{HighHalf}
use Rattle.acc_operations.specs.declared.high_half.HighHalf.TheVariants.{Any, Zero, Sign, Small}

abbrev pub low_half : Item
low_half = Op row.Andk (operand.Number 65535)

abbrev pub subs : AccOperand → Item
subs m = Op row.Subs m

abbrev pub sub : AccOperand → Item
sub m = Op (row.Sub 0) m

-- the accumulator, of whose high half so much is known, less a word of memory: all bits are 0 exactly where the words are equal
abbrev pub exactly_less : HighHalf → AccOperand → ItemList
exactly_less Any m = sub m ▸ low_half ▸ end
exactly_less Zero m = subs m ▸ end
exactly_less Sign m = sub m ▸ end
exactly_less Small m = sub m ▸ end

-- and less a constant that isn't 0
abbrev pub exactly_less_number : HighHalf → ℕ → ItemList
exactly_less_number Any w = minus (Number w) ⧺ low_half ▸ end
exactly_less_number Zero w = if nat_lt w 256 then Op row.Subk (operand.Number w) ▸ end else Op row.Xork (operand.Number w) ▸ end
exactly_less_number Sign w = minus (Number w)
exactly_less_number Small w = minus (Number w)

abbrev pub exactly_less_constant : HighHalf → Constant → ItemList
exactly_less_constant h (Number w) = exactly_less_number h w
exactly_less_constant Any (Address v n) = minus (Address v n) ⧺ low_half ▸ end
exactly_less_constant Zero (Address v n) = minus (Address v n) ⧺ low_half ▸ end
exactly_less_constant Sign (Address v n) = minus (Address v n)
exactly_less_constant Small (Address v n) = minus (Address v n)

-- a word and a constant, as far as all bits are 0 exactly where they are equal
abbrev pub exact_with : Found → Constant → ItemList
exact_with f (Address v n) = load f ⧺ exactly_less_constant (high f) (Address v n)
exact_with f (Number n) = if n == 0 then load_clean f else load f ⧺ exactly_less_constant (high f) (Number n)

-- less a number without a sign, which as a word with a sign would be negative from 8000h on
abbrev pub less_unsigned : ℕ → ItemList
less_unsigned w =
    if w == 0 then end
    else if nat_lt w 256 then Op row.Subk (operand.Number w) ▸ end
    else if nat_lt w 32768 then Op (row.Sblk 0) (operand.Number w) ▸ end
    else Op (row.Sblk 1) (operand.Number (w / 2)) ▸ (if w % 2 == 0 then end else Op row.Subk (operand.Number 1) ▸ end)

-- items, and the test of what they leave
pub record Compared : Type 0 where
  pub items : ItemList
  pub test : Test

-- the right word is that of a place of memory
abbrev pub items_with_place : Order → Found → AccOperand → ItemList
items_with_place Exact f m = load f ⧺ exactly_less (high f) m
items_with_place Signed f m = load_signed f ⧺ sub m ▸ end
items_with_place Unsigned f m = load_unsigned f ⧺ subs m ▸ end

abbrev pub compared_with_place : Comparison → Found → AccOperand → Compared
compared_with_place c f m = record { items = items_with_place c.order f m; test = c.test }

-- the right word is a constant. An address without a sign is loaded behind the left word, so the two change places
abbrev pub items_with_constant : Order → Found → Constant → ItemList
items_with_constant Exact f k = exact_with f k
items_with_constant Signed f k = load_signed f ⧺ minus k
items_with_constant Unsigned f (Number n) = load_unsigned f ⧺ less_unsigned n
items_with_constant Unsigned f (Address v n) =
    store (scratch 0) f ⧺ Op (row.Lalk 0) (operand.Address v n) ▸ low_half ▸ subs (scratch 0) ▸ end

abbrev pub test_with_constant : Order → Test → Constant → Test
test_with_constant Exact t k = t
test_with_constant Signed t k = t
test_with_constant Unsigned t (Number n) = t
test_with_constant Unsigned t (Address v n) = swapped t

abbrev pub compared_with_constant : Comparison → Found → Constant → Compared
compared_with_constant c f k = record { items = items_with_constant c.order f k; test = test_with_constant c.order c.test k }

-- the left word is a constant, and the right one has to be computed
abbrev pub compared_of_constant : Comparison → Constant → Found → Compared
compared_of_constant c k f = compared_with_constant (swapped_comparison c) f k

-- the left word was stored to a place. The right one is compared with it where its high half is known so, else it makes way for the left one
abbrev pub items_of_place : Order → AccOperand → Found → HighHalf → ItemList
items_of_place Exact m f h = load f ⧺ exactly_less h m
items_of_place Signed m f Any = store (scratch 0) f ⧺ lac m ▸ sub (scratch 0) ▸ end
items_of_place Signed m f Zero = store (scratch 0) f ⧺ lac m ▸ sub (scratch 0) ▸ end
items_of_place Signed m f Sign = load f ⧺ sub m ▸ end
items_of_place Signed m f Small = load f ⧺ sub m ▸ end
items_of_place Unsigned m f Any = store (scratch 0) f ⧺ Op row.Zals m ▸ subs (scratch 0) ▸ end
items_of_place Unsigned m f Zero = load f ⧺ subs m ▸ end
items_of_place Unsigned m f Sign = store (scratch 0) f ⧺ Op row.Zals m ▸ subs (scratch 0) ▸ end
items_of_place Unsigned m f Small = load f ⧺ subs m ▸ end

abbrev pub test_of_place : Order → Test → HighHalf → Test
test_of_place Exact t h = t
test_of_place Signed t Any = t
test_of_place Signed t Zero = t
test_of_place Signed t Sign = swapped t
test_of_place Signed t Small = swapped t
test_of_place Unsigned t Any = t
test_of_place Unsigned t Zero = swapped t
test_of_place Unsigned t Sign = t
test_of_place Unsigned t Small = swapped t

abbrev pub compared_of_place : Comparison → AccOperand → Found → Compared
compared_of_place c m f = record { items = items_of_place c.order m f (high f); test = test_of_place c.order c.test (high f) }
