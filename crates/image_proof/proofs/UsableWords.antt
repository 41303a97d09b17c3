-- Words are brought to the accumulator, to T or to a place by usable items.
use Rattle.std.proofs.Common.{ℕ, ◌<◌, Bool, true, false, arith}
use Rattle.std.specs.Prelude.{⊤, nat_lt, if◌then◌else◌}
use Rattle.acc_code.specs.AccTree.{Op, ItemList, end, item, ◌▸◌}
use Rattle.acc_code.specs.declared.operand.AccOperand.{AccOperand}
use Rattle.acc_code.specs.declared.operand.AccOperand.TheVariants as operand
use Rattle.acc_code.specs.declared.operation.AccOp.{AccOp}
use Rattle.acc_code.specs.declared.operation.AccOp.TheVariants as row
use Rattle.acc_select.specs.acc_operations.Constants.{load_constant, constant_operand, negative}
use Rattle.acc_select.specs.acc_operations.Words.{Word, in_accumulator, load, high, loaded, store, load_t, extend, clear_high, clean, load_signed, load_unsigned, load_clean}
use Rattle.acc_select.specs.acc_operations.declared.constant.Constant.{Constant}
use Rattle.acc_select.specs.acc_operations.declared.constant.Constant.TheVariants.{Number, Address}
use Rattle.acc_select.specs.acc_operations.declared.found.Found.{Found}
use Rattle.acc_select.specs.acc_operations.declared.found.Found.TheVariants.{Fixed, Held, Loaded}
use Rattle.acc_select.specs.acc_operations.declared.high_half.HighHalf.{HighHalf}
use Rattle.acc_select.specs.acc_operations.declared.high_half.HighHalf.TheVariants.{Any, Zero, Sign, Small}
use Rattle.emit_proof.specs.Addressed.{IsWordOperand}
use Rattle.image_proof.proofs.Usables.{Usable, nothing, on_number, on_address, on_first, on_place, both}

abbrev pub IsWordConstant : Constant → Type 0
IsWordConstant (Number w) = w < 65536
IsWordConstant (Address v n) = ⊤

abbrev pub IsWordFound : Found → Type 0
IsWordFound (Fixed k) = IsWordConstant k
IsWordFound (Held m) = IsWordOperand m
IsWordFound (Loaded h) = ⊤

pub record UsableWord (w : Word) : Type 0 where
  pub items : Usable w.items
  pub found : IsWordFound w.found

pub calculated : {xs : ItemList} {h : HighHalf} → Usable xs → UsableWord (in_accumulator xs h)
calculated h = record { items = h; found = tt }

pub negative_word : (w : ℕ) → negative w < 65536
negative_word w = omega arith

-- constants
pub constant_first : (k : Constant) {xs : ItemList} → IsWordConstant k → Usable xs → Usable (load_constant k ▸ xs)
constant_first (Address v n) is h = on_address h
constant_first (Number w) {xs} is h = by_size (nat_lt w 256)
  where
    by_size : (b : Bool) → Usable (item (if b then Op row.Lack (operand.Number w) else Op (row.Lalk 0) (operand.Number w)) xs)
    by_size true = on_number is h
    by_size false = on_number is h

pub on_constant : (o : AccOp) (k : Constant) {xs : ItemList} → IsWordConstant k → Usable xs → Usable (Op o (constant_operand k) ▸ xs)
on_constant o (Number w) is h = on_number is h
on_constant o (Address v n) is h = on_address h

-- words that were found
pub load_usable : (f : Found) → IsWordFound f → Usable (load f)
load_usable (Fixed k) is = constant_first k is nothing
load_usable (Held m) is = on_place is nothing
load_usable (Loaded h) is = nothing

pub loaded_usable : (w : Word) → UsableWord w → Usable (loaded w)
loaded_usable w h = both h.items (load_usable w.found h.found)

pub store_usable : (m : AccOperand) (f : Found) → IsWordOperand m → IsWordFound f → Usable (store m f)
store_usable m f to is = both (load_usable f is) (on_place to nothing)

pub load_t_usable : (f : Found) → IsWordFound f → Usable (load_t f)
load_t_usable (Fixed k) is = constant_first k is (on_first (on_first nothing))
load_t_usable (Held m) is = on_place is nothing
load_t_usable (Loaded h) is = on_first (on_first nothing)

-- high halves
low_half_alone : Usable (Op row.Andk (operand.Number 65535) ▸ end)
low_half_alone = on_number (omega arith) nothing

pub extend_usable : (h : HighHalf) → Usable (extend h)
extend_usable Any = on_first (on_first nothing)
extend_usable Zero = on_first (on_first nothing)
extend_usable Sign = nothing
extend_usable Small = nothing

pub clear_usable : (h : HighHalf) → Usable (clear_high h)
clear_usable Any = low_half_alone
clear_usable Zero = nothing
clear_usable Sign = low_half_alone
clear_usable Small = nothing

clean_usable : (h : HighHalf) → Usable (clean h)
clean_usable Any = low_half_alone
clean_usable Zero = nothing
clean_usable Sign = nothing
clean_usable Small = nothing

pub load_signed_usable : (f : Found) → IsWordFound f → Usable (load_signed f)
load_signed_usable f is = both (load_usable f is) (extend_usable (high f))

pub load_unsigned_usable : (f : Found) → IsWordFound f → Usable (load_unsigned f)
load_unsigned_usable f is = both (load_usable f is) (clear_usable (high f))

pub load_clean_usable : (f : Found) → IsWordFound f → Usable (load_clean f)
load_clean_usable f is = both (load_usable f is) (clean_usable (high f))
