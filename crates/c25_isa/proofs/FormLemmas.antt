-- What operands are where some form has them, and how large a first word is.
use Rattle.std.proofs.Common.{ℕ, ◌<◌, ◌≤◌, ℤ, pos, negsuc, arith}
use Rattle.c25_isa.specs.declared.operand.Indirect.{Indirect}
use Rattle.c25_isa.specs.declared.operand.Operand.{Operand}
use Rattle.c25_isa.specs.declared.instruction.JumpOp.{JumpOp}
use Rattle.c25_isa.specs.declared.instruction.JumpOp.TheVariants as jump
use Rattle.c25_isa.specs.declared.instruction.Instr.{Instr}
use Rattle.c25_isa.specs.declared.instruction.Instr.TheVariants.{Add, Sub, Lac, Lar, Mpy, Lt, Zals, Lact, Subs, Subc, Adds, Rpt, Xor, Or, And, Pshd, Mar, Sacl, Sach, Sar, Popd, Adrk, Sbrk, In, Mpyk, Lark, Ldpk, Lack, Rptk, Addk, Subk, Dint, Rovm, Rsxm, Ssxm, Spm, Pac, Apac, Spac, Sfl, Sfr, Idle, Neg, Ret, Cmpl, Lrlk, Lalk, Adlk, Sblk, Andk, Ork, Xork, Out, Branch, Call}
use Rattle.c25_isa.specs.declared.mnemonic.Form.{Form}
use Rattle.c25_isa.specs.declared.mnemonic.Form.TheVariants as form
use Rattle.c25_isa.specs.declared.fields.Fields.TheVariants as fields
use Rattle.c25_isa.specs.Rows.{row, row_of, fields_of, jump_word}
use Rattle.c25_isa.specs.Table.{IsIndirect, IsOperand, IsSigned13, FitsForm, AreFields, IsInstr, low13, first_word}
use Rattle.c25_isa.proofs.Operands.{operand_byte-lt, indirect_byte-fits}

pub memory_fits : (kind : Form) (o : Operand) → FitsForm kind (fields.Memory o) → IsOperand o
memory_fits form.Memory o h = h
memory_fits kind o h = absurd h

pub shifted_fits : (kind : Form) (shift : ℕ) (o : Operand) → FitsForm kind (fields.ShiftedMemory shift o) → IsOperand o
shifted_fits (form.ShiftedMemory shifts) shift o h = h.1
shifted_fits kind shift o h = absurd h

pub register_fits : (kind : Form) (register : ℕ) (o : Operand) → FitsForm kind (fields.RegisterMemory register o) → IsOperand o
register_fits form.RegisterMemory register o h = h.1
register_fits kind register o h = absurd h

pub port_fits : (kind : Form) (port : ℕ) (o : Operand) → FitsForm kind (fields.PortMemory port o) → IsOperand o
port_fits form.PortMemory port o h = h.1
port_fits kind port o h = absurd h

pub pointer_fits : (kind : Form) (i : Indirect) → FitsForm kind (fields.Pointer i) → IsIndirect i
pointer_fits form.Pointer i h = h
pointer_fits kind i h = absurd h

pub target_fits : (kind : Form) (to : ℕ) (i : Indirect) → FitsForm kind (fields.Target to i) → IsIndirect i
target_fits form.Target to i h = h.1
target_fits kind to i h = absurd h

pub constant_fits : (kind : Form) (constant : ℤ) → FitsForm kind (fields.Constant13 constant) → IsSigned13 constant
constant_fits form.Constant13 constant h = h
constant_fits kind constant h = absurd h

pub are_fields : (i : Instr) → IsInstr i → AreFields (fields_of i)
are_fields i h = ((row (row_of i)).form, h)

low13-lt : (n : ℤ) → IsSigned13 n → low13 n < 8192
low13-lt (pos n) h = omega arith
low13-lt (negsuc n) h = omega arith

jump_word-lt : (op : JumpOp) → jump_word op ≤ 65280
jump_word-lt jump.Bgz = omega arith
jump_word-lt jump.Blez = omega arith
jump_word-lt jump.Blz = omega arith
jump_word-lt jump.Bgez = omega arith
jump_word-lt jump.Bnz = omega arith
jump_word-lt jump.Bz = omega arith
jump_word-lt jump.B = omega arith

-- a first word has 16 bits
pub first_word-lt : (i : Instr) → IsInstr i → first_word i < 65536
first_word-lt (Add shift o) h = omega (arith, h.0, operand_byte-lt o h.1)
first_word-lt (Sub shift o) h = omega (arith, h.0, operand_byte-lt o h.1)
first_word-lt (Lac shift o) h = omega (arith, h.0, operand_byte-lt o h.1)
first_word-lt (Lar register o) h = omega (arith, h.0, operand_byte-lt o h.1)
first_word-lt (Mpy o) h = omega (arith, operand_byte-lt o h)
first_word-lt (Lt o) h = omega (arith, operand_byte-lt o h)
first_word-lt (Zals o) h = omega (arith, operand_byte-lt o h)
first_word-lt (Lact o) h = omega (arith, operand_byte-lt o h)
first_word-lt (Subs o) h = omega (arith, operand_byte-lt o h)
first_word-lt (Subc o) h = omega (arith, operand_byte-lt o h)
first_word-lt (Adds o) h = omega (arith, operand_byte-lt o h)
first_word-lt (Rpt o) h = omega (arith, operand_byte-lt o h)
first_word-lt (Xor o) h = omega (arith, operand_byte-lt o h)
first_word-lt (Or o) h = omega (arith, operand_byte-lt o h)
first_word-lt (And o) h = omega (arith, operand_byte-lt o h)
first_word-lt (Pshd o) h = omega (arith, operand_byte-lt o h)
first_word-lt (Mar i) h = omega (arith, (indirect_byte-fits i h).1)
first_word-lt (Sacl shift o) h = omega (arith, h.0, operand_byte-lt o h.1)
first_word-lt (Sach shift o) h = omega (arith, h.0, operand_byte-lt o h.1)
first_word-lt (Sar register o) h = omega (arith, h.0, operand_byte-lt o h.1)
first_word-lt (Popd o) h = omega (arith, operand_byte-lt o h)
first_word-lt (Adrk constant) h = omega (arith, h)
first_word-lt (Sbrk constant) h = omega (arith, h)
first_word-lt (In port o) h = omega (arith, h.0, operand_byte-lt o h.1)
first_word-lt (Mpyk constant) h = omega (arith, low13-lt constant h)
first_word-lt (Lark register constant) h = omega (arith, h.0, h.1)
first_word-lt (Ldpk constant) h = omega (arith, h)
first_word-lt (Lack constant) h = omega (arith, h)
first_word-lt (Rptk constant) h = omega (arith, h)
first_word-lt (Addk constant) h = omega (arith, h)
first_word-lt (Subk constant) h = omega (arith, h)
first_word-lt Dint h = omega arith
first_word-lt Rovm h = omega arith
first_word-lt Rsxm h = omega arith
first_word-lt Ssxm h = omega arith
first_word-lt Spm h = omega arith
first_word-lt Pac h = omega arith
first_word-lt Apac h = omega arith
first_word-lt Spac h = omega arith
first_word-lt Sfl h = omega arith
first_word-lt Sfr h = omega arith
first_word-lt Idle h = omega arith
first_word-lt Neg h = omega arith
first_word-lt Ret h = omega arith
first_word-lt Cmpl h = omega arith
first_word-lt (Lrlk register word) h = omega (arith, h.0)
first_word-lt (Lalk shift word) h = omega (arith, h.0)
first_word-lt (Adlk shift word) h = omega (arith, h.0)
first_word-lt (Sblk shift word) h = omega (arith, h.0)
first_word-lt (Andk word) h = omega arith
first_word-lt (Ork word) h = omega arith
first_word-lt (Xork word) h = omega arith
first_word-lt (Out port o) h = omega (arith, h.0, operand_byte-lt o h.1)
first_word-lt (Branch op to i) h = omega (arith, jump_word-lt op, (indirect_byte-fits i h.1).1)
first_word-lt (Call to i) h = omega (arith, (indirect_byte-fits i h.1).1)
