-- The operations that only read, by what their row works on.
use Rattle.std.specs.Prelude.{⊤}
use Rattle.acc_code.specs.declared.operation.AccOp.{AccOp}
use Rattle.acc_code.specs.Operands.{Taken, No_operand, Read_word, Constant8, Constant13, Constant16, taken_by}

-- a word of data memory
abbrev pub IsReadWord : Taken → Type 0
IsReadWord Read_word = ⊤
IsReadWord t = ⊥

-- a constant, or nothing but the registers
abbrev pub IsConstantOrNone : Taken → Type 0
IsConstantOrNone No_operand = ⊤
IsConstantOrNone Constant8 = ⊤
IsConstantOrNone Constant13 = ⊤
IsConstantOrNone Constant16 = ⊤
IsConstantOrNone t = ⊥

abbrev pub WorksOnWord : AccOp → Type 0
WorksOnWord o = IsReadWord (taken_by o)

abbrev pub WorksOnConstant : AccOp → Type 0
WorksOnConstant o = IsConstantOrNone (taken_by o)
