-- The instruction of a row (docs/MACHINE.md, "Instructions"), by its operand in data memory, or by the word that it works on.
use Rattle.std.specs.Prelude.{ℕ, ℤ, pos, negsuc, ◌-◌, nat_lt, if◌then◌else◌}
use Rattle.c25_isa.specs.declared.operand.Operand.{Operand}
use Rattle.c25_isa.specs.declared.instruction.Instr.{Instr}
use Rattle.c25_isa.specs.declared.instruction.Instr.TheVariants as instr
use Rattle.acc_code.specs.declared.operation.AccOp.{AccOp}
use Rattle.acc_code.specs.declared.operation.AccOp.TheVariants as row

-- a word of 13 bits with its sign
abbrev pub signed_constant : ℕ → ℤ
signed_constant w = if nat_lt w 32768 then pos w else negsuc (65535 - w)

-- on a word of data memory. Point loads AR1; a row that takes no such word has none
abbrev pub word_instr : AccOp → Operand → Instr
word_instr row.Point o = instr.Lar 1 o
word_instr (row.Add s) o = instr.Add s o
word_instr (row.Sub s) o = instr.Sub s o
word_instr (row.Lac s) o = instr.Lac s o
word_instr row.Mpy o = instr.Mpy o
word_instr row.Lt o = instr.Lt o
word_instr row.Zals o = instr.Zals o
word_instr row.Lact o = instr.Lact o
word_instr row.Subs o = instr.Subs o
word_instr row.Adds o = instr.Adds o
word_instr row.Xor o = instr.Xor o
word_instr row.Or o = instr.Or o
word_instr row.And o = instr.And o
word_instr (row.Sacl s) o = instr.Sacl s o
word_instr (row.Sach s) o = instr.Sach s o
word_instr (row.In port) o = instr.In port o
word_instr (row.Out port) o = instr.Out port o
word_instr r o = instr.Dint

-- on the accumulator alone
abbrev pub plain_instr : AccOp → Instr
plain_instr row.Rovm = instr.Rovm
plain_instr row.Rsxm = instr.Rsxm
plain_instr row.Ssxm = instr.Ssxm
plain_instr row.Spm = instr.Spm
plain_instr row.Pac = instr.Pac
plain_instr row.Apac = instr.Apac
plain_instr row.Spac = instr.Spac
plain_instr row.Sfl = instr.Sfl
plain_instr row.Sfr = instr.Sfr
plain_instr row.Neg = instr.Neg
plain_instr row.Cmpl = instr.Cmpl
plain_instr r = instr.Dint

-- on a constant, or on the accumulator alone
abbrev pub constant_instr : AccOp → ℕ → Instr
constant_instr row.Point w = instr.Lrlk 1 w
constant_instr row.Mpyk w = instr.Mpyk (signed_constant w)
constant_instr row.Lack w = instr.Lack w
constant_instr row.Addk w = instr.Addk w
constant_instr row.Subk w = instr.Subk w
constant_instr (row.Lalk s) w = instr.Lalk s w
constant_instr (row.Adlk s) w = instr.Adlk s w
constant_instr (row.Sblk s) w = instr.Sblk s w
constant_instr row.Andk w = instr.Andk w
constant_instr row.Ork w = instr.Ork w
constant_instr row.Xork w = instr.Xork w
constant_instr r w = plain_instr r
