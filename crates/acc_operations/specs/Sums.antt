-- Sums and differences with constants, shifts by constants, and operators by routines.
use Rattle.std.specs.Prelude.{ℕ, zero, suc, ◌-◌, ◌%◌, ◌==◌, if◌then◌else◌, nat_lt}
use Rattle.acc_code.specs.declared.operand.AccOperand.TheVariants as operand
use Rattle.acc_code.specs.declared.operand.HelperName.{HelperName}
use Rattle.acc_code.specs.declared.operation.AccOp.{AccOp}
use Rattle.acc_code.specs.declared.operation.AccOp.TheVariants as row
use Rattle.acc_code.specs.AccTree.{Item, Op, Helper, ItemList, end, ◌▸◌, ◌⧺◌}
use Rattle.acc_operations.specs.Constants.{negative}
use Rattle.acc_operations.specs.Words.{scratch, lac, bare, load, store, load_signed, load_unsigned}
use Rattle.acc_operations.specs.declared.found.Found.{Found}
use Rattle.acc_operations.specs.declared.found.Found.TheVariants.{Fixed, Held, Loaded}
use Rattle.acc_operations.specs.declared.constant.Constant.{Constant}
use Rattle.acc_operations.specs.declared.constant.Constant.TheVariants.{Number, Address}

-- the accumulator more or less a constant, by rows for a small number, for one whose negative is small, and for any word
abbrev pub by_constant : AccOp → AccOp → AccOp → Constant → ItemList
by_constant small opposite any (Address v n) = Op any (operand.Address v n) ▸ end
by_constant small opposite any (Number w) =
    if w == 0 then end
    else if nat_lt w 256 then Op small (operand.Number w) ▸ end
    else if nat_lt (negative w) 256 then Op opposite (operand.Number (negative w)) ▸ end
    else Op any (operand.Number w) ▸ end

abbrev pub plus : Constant → ItemList
plus k = by_constant row.Addk row.Subk (row.Adlk 0) k

-- exact on 32 bits where the high half is the sign and the constant is read with its own
abbrev pub minus : Constant → ItemList
minus k = by_constant row.Subk row.Addk (row.Sblk 0) k

-- the same item so often
abbrev pub repeated : ℕ → Item → ItemList
repeated zero x = end
repeated (suc n) x = x ▸ repeated n x

-- a count of a shift. An address is never a count that has a value
abbrev pub count_of : Constant → ℕ
count_of (Number w) = w % 16
count_of (Address v n) = 0

-- by ones, or by a load further left
abbrev pub moved_left : Found → ℕ → ItemList
moved_left f n =
    if nat_lt n 4 then load f ⧺ repeated n (bare row.Sfl)
    else store (scratch 0) f ⧺ Op (row.Lac n) (scratch 0) ▸ end

abbrev pub shift_left : Found → ℕ → ItemList
shift_left (Fixed k) n = moved_left (Fixed k) n
shift_left (Held m) n = Op (row.Lac n) m ▸ end
shift_left (Loaded h) n = moved_left (Loaded h) n

-- all 32 bits, by a count below 16: by ones, or by a store of the high half further left
abbrev pub moved_right : Item → ℕ → ItemList
moved_right reload n =
    if nat_lt n 6 then repeated n (bare row.Sfr)
    else if nat_lt n 9 then repeated (9 - n) (bare row.Sfl) ⧺ Op (row.Sach 7) (scratch 0) ▸ reload ▸ end
    else Op (row.Sach (16 - n)) (scratch 0) ▸ reload ▸ end

abbrev pub moved_right_signed : Found → ℕ → ItemList
moved_right_signed f n = load_signed f ⧺ moved_right (lac (scratch 0)) n

abbrev pub shift_right_signed : Found → ℕ → ItemList
shift_right_signed (Fixed k) n = moved_right_signed (Fixed k) n
shift_right_signed (Held m) n =
    if nat_lt n 3 then moved_right_signed (Held m) n
    else Op (row.Lac (16 - n)) m ▸ Op (row.Sach 0) (scratch 0) ▸ lac (scratch 0) ▸ end
shift_right_signed (Loaded h) n = moved_right_signed (Loaded h) n

abbrev pub shift_right_unsigned : Found → ℕ → ItemList
shift_right_unsigned f n = load_unsigned f ⧺ moved_right (Op row.Zals (scratch 0)) n

-- an operator by a routine, with both operands in their scratch words. Behind it words are extended by their sign again
abbrev pub by_helper : HelperName → ItemList
by_helper name = Helper name ▸ bare row.Ssxm ▸ end
