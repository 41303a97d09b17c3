-- Where the word of an expression is found, and the items that bring it elsewhere.
use Rattle.std.specs.Prelude.{ℕ}
use Rattle.acc_code.specs.declared.operand.AccOperand.{AccOperand}
use Rattle.acc_code.specs.declared.operand.AccOperand.TheVariants as operand
use Rattle.acc_code.specs.declared.operation.AccOp.{AccOp}
use Rattle.acc_code.specs.declared.operation.AccOp.TheVariants as row
use Rattle.acc_code.specs.AccTree.{Item, Op, ItemList, end, ◌▸◌, ◌⧺◌}
use Rattle.acc_operations.specs.Constants.{load_constant, constant_high}
use Rattle.acc_operations.specs.declared.found.Found.{Found}
use Rattle.acc_operations.specs.declared.found.Found.TheVariants.{Fixed, Held, Loaded}
use Rattle.acc_operations.specs.declared.high_half.HighHalf.{HighHalf}
use Rattle.acc_operations.specs.declared.high_half.HighHalf.TheVariants.{Any, Zero, Sign, Small}

-- a word: the items that are run first, and where it is then
pub record Word : Type 0 where
  pub items : ItemList
  pub found : Found

-- behind other items
abbrev pub behind : ItemList → Word → Word
behind xs w = record { items = xs ⧺ w.items; found = w.found }

-- a word that is made of one that was found
abbrev pub next : Word → (Found → Word) → Word
next w f = behind w.items (f w.found)

abbrev pub in_accumulator : ItemList → HighHalf → Word
in_accumulator items h = record { items = items; found = Loaded h }

abbrev pub fixed : Rattle.acc_operations.specs.declared.constant.Constant.Constant → Word
fixed k = record { items = end; found = Fixed k }

abbrev pub held : ItemList → AccOperand → Word
held items m = record { items = items; found = Held m }

abbrev pub scratch : ℕ → AccOperand
scratch n = operand.Scratch n

abbrev pub lac : AccOperand → Item
lac m = Op (row.Lac 0) m

abbrev pub sacl : AccOperand → Item
sacl m = Op (row.Sacl 0) m

abbrev pub bare : AccOp → Item
bare o = Op o operand.Nothing

-- what brings it into the accumulator
abbrev pub load : Found → ItemList
load (Fixed k) = load_constant k ▸ end
load (Held m) = lac m ▸ end
load (Loaded h) = end

-- what is known of the high half then
abbrev pub high : Found → HighHalf
high (Fixed k) = constant_high k
high (Held m) = Sign
high (Loaded h) = h

abbrev pub loaded : Word → ItemList
loaded w = w.items ⧺ load w.found

-- what brings it into a place
abbrev pub store : AccOperand → Found → ItemList
store n f = load f ⧺ sacl n ▸ end

-- what brings it into T
abbrev pub load_t : Found → ItemList
load_t (Fixed k) = load_constant k ▸ sacl (scratch 0) ▸ Op row.Lt (scratch 0) ▸ end
load_t (Held m) = Op row.Lt m ▸ end
load_t (Loaded h) = sacl (scratch 0) ▸ Op row.Lt (scratch 0) ▸ end

-- the high half becomes the sign, or 0, or such that all 32 bits are 0 where the word is
abbrev pub extend : HighHalf → ItemList
extend Any = sacl (scratch 0) ▸ lac (scratch 0) ▸ end
extend Zero = sacl (scratch 0) ▸ lac (scratch 0) ▸ end
extend Sign = end
extend Small = end

abbrev pub clear_high : HighHalf → ItemList
clear_high Any = Op row.Andk (operand.Number 65535) ▸ end
clear_high Zero = end
clear_high Sign = Op row.Andk (operand.Number 65535) ▸ end
clear_high Small = end

abbrev pub clean : HighHalf → ItemList
clean Any = Op row.Andk (operand.Number 65535) ▸ end
clean Zero = end
clean Sign = end
clean Small = end

abbrev pub load_signed : Found → ItemList
load_signed f = load f ⧺ extend (high f)

abbrev pub load_unsigned : Found → ItemList
load_unsigned f = load f ⧺ clear_high (high f)

abbrev pub load_clean : Found → ItemList
load_clean f = load f ⧺ clean (high f)
