-- Which operands an operation takes: those of its row in the instruction table (docs/MACHINE.md, "Instructions").
use Rattle.std.specs.Prelude.{⊤, ℕ, ◌≡◌, ◌<◌, Bool, true, nat_lt, ◌||◌}
use Rattle.acc_code.specs.declared.operand.AccOperand.{AccOperand}
use Rattle.acc_code.specs.declared.operand.AccOperand.TheVariants as operand
use Rattle.acc_code.specs.declared.operation.AccOp.{AccOp}
use Rattle.acc_code.specs.declared.operation.AccOp.TheVariants as row

-- none; a word of data memory that is read, or written; a constant of 8 bits; one of 13 bits with a sign; a word
pub data Taken : Type 0 where
  No_operand : Taken
  Read_word : Taken
  Written_word : Taken
  Constant8 : Taken
  Constant13 : Taken
  Constant16 : Taken

abbrev pub taken_by : AccOp → Taken
taken_by row.Point = No_operand
taken_by (row.Add s) = Read_word
taken_by (row.Sub s) = Read_word
taken_by (row.Lac s) = Read_word
taken_by row.Mpy = Read_word
taken_by row.Lt = Read_word
taken_by row.Zals = Read_word
taken_by row.Lact = Read_word
taken_by row.Subs = Read_word
taken_by row.Adds = Read_word
taken_by row.Xor = Read_word
taken_by row.Or = Read_word
taken_by row.And = Read_word
taken_by (row.Sacl s) = Written_word
taken_by (row.Sach s) = Written_word
taken_by (row.In port) = Written_word
taken_by (row.Out port) = Read_word
taken_by row.Mpyk = Constant13
taken_by row.Lack = Constant8
taken_by row.Addk = Constant8
taken_by row.Subk = Constant8
taken_by (row.Lalk s) = Constant16
taken_by (row.Adlk s) = Constant16
taken_by (row.Sblk s) = Constant16
taken_by row.Andk = Constant16
taken_by row.Ork = Constant16
taken_by row.Xork = Constant16
taken_by o = No_operand

-- shifts and ports in their ranges
abbrev pub HasRange : AccOp → Type 0
HasRange (row.Add s) = s < 16
HasRange (row.Sub s) = s < 16
HasRange (row.Lac s) = s < 16
HasRange (row.Sacl s) = s < 8
HasRange (row.Sach s) = s < 8
HasRange (row.In port) = port < 16
HasRange (row.Out port) = port < 16
HasRange (row.Lalk s) = s < 16
HasRange (row.Adlk s) = s < 16
HasRange (row.Sblk s) = s < 16
HasRange o = ⊤

-- a word of 13 bits with a sign, from -4096 to 4095
abbrev pub has_13_bits : ℕ → Bool
has_13_bits w = nat_lt w 4096 || nat_lt 61439 w

-- a parameter of another function may only be stored to
abbrev pub IsTaken : Taken → AccOperand → Type 0
IsTaken No_operand operand.Nothing = ⊤
IsTaken Read_word (operand.Scalar n) = ⊤
IsTaken Read_word (operand.Direct v) = ⊤
IsTaken Read_word (operand.Scratch n) = ⊤
IsTaken Read_word operand.Pointed = ⊤
IsTaken Written_word (operand.Scalar n) = ⊤
IsTaken Written_word (operand.Direct v) = ⊤
IsTaken Written_word (operand.Param f n) = ⊤
IsTaken Written_word (operand.Scratch n) = ⊤
IsTaken Written_word operand.Pointed = ⊤
IsTaken Constant8 (operand.Number w) = w < 256
IsTaken Constant13 (operand.Number w) = has_13_bits w ≡ true
IsTaken Constant16 (operand.Number w) = ⊤
IsTaken Constant16 (operand.Address v n) = ⊤
IsTaken t m = ⊥
