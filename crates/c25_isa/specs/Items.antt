-- Items of pieces whose operands are in their ranges.
use Rattle.std.specs.Prelude.{ℕ, ℤ, pos, negsuc, List, [], ◌∷◌, Option, Some, None}
use Rattle.std.specs.Coded.{×_prop, Unit-prop, le_prop}
use Rattle.c25_isa.specs.declared.operand.Operand.{Operand}
use Rattle.c25_isa.specs.declared.operand.Operand.TheVariants as operand
use Rattle.c25_isa.specs.declared.mnemonic.Form.{Form}
use Rattle.c25_isa.specs.declared.mnemonic.Form.TheVariants as form
use Rattle.c25_isa.specs.declared.fields.Fields.{Fields}
use Rattle.c25_isa.specs.declared.fields.Fields.TheVariants as fields
use Rattle.c25_isa.specs.declared.piece.PieceItem.{PieceItem}
use Rattle.c25_isa.specs.declared.piece.PieceItem.TheVariants.{Do, Mark, Jump, CallTo}
use Rattle.c25_isa.specs.Rows.{row, row_of, fields_of}
use Rattle.c25_isa.specs.Table.{IsNext, IsIndirect, IsOperand, IsSigned13, FitsForm, IsInstr}

abbrev pub ItemFits : PieceItem → Type 0
ItemFits (Do i) = IsInstr i
ItemFits (Mark mark) = Unit {0}
ItemFits (Jump op to o) = IsIndirect o
ItemFits (CallTo name o) = IsIndirect o

abbrev pub ItemsFit : List PieceItem → Type 0
ItemsFit [] = Unit {0}
ItemsFit (item ∷ items) = ItemFits item × ItemsFit items

-- each of these facts has one proof at most, so it may be a ghost field
IsNext-prop : (next : Option ℕ) → IsProp (IsNext next)
IsNext-prop None = Unit-prop
IsNext-prop (Some register) = le_prop

IsOperand-prop : (o : Operand) → IsProp (IsOperand o)
IsOperand-prop (operand.Direct offset) = le_prop
IsOperand-prop (operand.Indirect i) = IsNext-prop i.next

IsSigned13-prop : (n : ℤ) → IsProp (IsSigned13 n)
IsSigned13-prop (pos n) = le_prop
IsSigned13-prop (negsuc n) = le_prop

empty-prop : IsProp ⊥
empty-prop a b = absurd a

FitsForm-prop : (kind : Form) (f : Fields) → IsProp (FitsForm kind f)
FitsForm-prop form.NoOperand fields.NoOperand = Unit-prop
FitsForm-prop form.Memory (fields.Memory o) = IsOperand-prop o
FitsForm-prop (form.ShiftedMemory shifts) (fields.ShiftedMemory shift o) = ×_prop le_prop (IsOperand-prop o)
FitsForm-prop form.RegisterMemory (fields.RegisterMemory register o) = ×_prop le_prop (IsOperand-prop o)
FitsForm-prop form.PortMemory (fields.PortMemory port o) = ×_prop le_prop (IsOperand-prop o)
FitsForm-prop form.Pointer (fields.Pointer i) = IsNext-prop i.next
FitsForm-prop form.Constant8 (fields.Constant8 constant) = le_prop
FitsForm-prop form.Constant9 (fields.Constant9 constant) = le_prop
FitsForm-prop form.Constant13 (fields.Constant13 constant) = IsSigned13-prop constant
FitsForm-prop form.RegisterConstant (fields.RegisterConstant register constant) = ×_prop le_prop le_prop
FitsForm-prop form.Word (fields.Word word) = le_prop
FitsForm-prop form.ShiftedWord (fields.ShiftedWord shift word) = ×_prop le_prop le_prop
FitsForm-prop form.RegisterWord (fields.RegisterWord register word) = ×_prop le_prop le_prop
FitsForm-prop form.Target (fields.Target to i) = ×_prop le_prop (IsNext-prop i.next)
FitsForm-prop kind f = empty-prop

ItemFits-prop : (item : PieceItem) → IsProp (ItemFits item)
ItemFits-prop (Do i) = FitsForm-prop (row (row_of i)).form (fields_of i)
ItemFits-prop (Mark mark) = Unit-prop
ItemFits-prop (Jump op to o) = IsNext-prop o.next
ItemFits-prop (CallTo name o) = IsNext-prop o.next

pub ItemsFit-prop : (items : List PieceItem) → IsProp (ItemsFit items)
ItemsFit-prop [] = Unit-prop
ItemsFit-prop (item ∷ items) = ×_prop (ItemFits-prop item) (ItemsFit-prop items)
