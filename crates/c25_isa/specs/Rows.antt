-- The instruction table by its rows (docs/MACHINE.md, "Instructions"): each row's name, its first word where all operands are 0, which operands
-- it takes, and what it does to data memory. An instruction is a row with its operands.
use Rattle.std.specs.Prelude.{◌≡◌, ℕ, List, codes, Option, Some, None}
use Rattle.c25_isa.specs.declared.instruction.JumpOp.{JumpOp}
use Rattle.c25_isa.specs.declared.instruction.JumpOp.TheVariants as jump
use Rattle.c25_isa.specs.declared.instruction.Instr.{Instr}
use Rattle.c25_isa.specs.declared.instruction.Instr.TheVariants.{Add, Sub, Lac, Lar, Mpy, Lt, Zals, Lact, Subs, Subc, Adds, Rpt, Xor, Or, And, Pshd, Mar, Sacl, Sach, Sar, Popd, Adrk, Sbrk, In, Mpyk, Lark, Ldpk, Lack, Rptk, Addk, Subk, Dint, Rovm, Rsxm, Ssxm, Spm, Pac, Apac, Spac, Sfl, Sfr, Idle, Neg, Ret, Cmpl, Lrlk, Lalk, Adlk, Sblk, Andk, Ork, Xork, Out, Branch, Call}
use Rattle.c25_isa.specs.declared.mnemonic.Mnemonic.{Mnemonic}
use Rattle.c25_isa.specs.declared.mnemonic.Mnemonic.TheVariants as mnemonic
use Rattle.c25_isa.specs.declared.mnemonic.Form.{Form}
use Rattle.c25_isa.specs.declared.mnemonic.Form.TheVariants as form
use Rattle.c25_isa.specs.declared.mnemonic.MemoryUse.{MemoryUse}
use Rattle.c25_isa.specs.declared.mnemonic.MemoryUse.TheVariants.{Neither, Reads, Writes}
use Rattle.c25_isa.specs.declared.fields.Fields.{Fields}
use Rattle.c25_isa.specs.declared.fields.Fields.TheVariants as fields

-- a name as a text, the first word where all operands are 0, which operands there are, and what happens to the word of data memory
pub record Row : Type 0 where
  pub name : List ℕ
  pub base : ℕ
  pub form : Form
  pub memory : MemoryUse

abbrev pub row_with : List ℕ → ℕ → Form → MemoryUse → Row
row_with name base form memory = record { name = name; base = base; form = form; memory = memory }

abbrev pub jump_name : JumpOp → List ℕ
jump_name jump.Bgz = codes "BGZ"
jump_name jump.Blez = codes "BLEZ"
jump_name jump.Blz = codes "BLZ"
jump_name jump.Bgez = codes "BGEZ"
jump_name jump.Bnz = codes "BNZ"
jump_name jump.Bz = codes "BZ"
jump_name jump.B = codes "B"

-- the first word of a jump where the operand byte is 0
abbrev pub jump_word : JumpOp → ℕ
jump_word jump.Bgz = 0xf100
jump_word jump.Blez = 0xf200
jump_word jump.Blz = 0xf300
jump_word jump.Bgez = 0xf400
jump_word jump.Bnz = 0xf500
jump_word jump.Bz = 0xf600
jump_word jump.B = 0xff00

-- the table
abbrev pub row : Mnemonic → Row
row mnemonic.Add = row_with (codes "ADD") 0x0000 (form.ShiftedMemory 16) Reads
row mnemonic.Sub = row_with (codes "SUB") 0x1000 (form.ShiftedMemory 16) Reads
row mnemonic.Lac = row_with (codes "LAC") 0x2000 (form.ShiftedMemory 16) Reads
row mnemonic.Lar = row_with (codes "LAR") 0x3000 form.RegisterMemory Reads
row mnemonic.Mpy = row_with (codes "MPY") 0x3800 form.Memory Reads
row mnemonic.Lt = row_with (codes "LT") 0x3c00 form.Memory Reads
row mnemonic.Zals = row_with (codes "ZALS") 0x4100 form.Memory Reads
row mnemonic.Lact = row_with (codes "LACT") 0x4200 form.Memory Reads
row mnemonic.Subs = row_with (codes "SUBS") 0x4500 form.Memory Reads
row mnemonic.Subc = row_with (codes "SUBC") 0x4700 form.Memory Reads
row mnemonic.Adds = row_with (codes "ADDS") 0x4900 form.Memory Reads
row mnemonic.Rpt = row_with (codes "RPT") 0x4b00 form.Memory Reads
row mnemonic.Xor = row_with (codes "XOR") 0x4c00 form.Memory Reads
row mnemonic.Or = row_with (codes "OR") 0x4d00 form.Memory Reads
row mnemonic.And = row_with (codes "AND") 0x4e00 form.Memory Reads
row mnemonic.Pshd = row_with (codes "PSHD") 0x5400 form.Memory Reads
row mnemonic.Mar = row_with (codes "MAR") 0x5500 form.Pointer Neither
row mnemonic.Sacl = row_with (codes "SACL") 0x6000 (form.ShiftedMemory 8) Writes
row mnemonic.Sach = row_with (codes "SACH") 0x6800 (form.ShiftedMemory 8) Writes
row mnemonic.Sar = row_with (codes "SAR") 0x7000 form.RegisterMemory Writes
row mnemonic.Popd = row_with (codes "POPD") 0x7a00 form.Memory Writes
row mnemonic.Adrk = row_with (codes "ADRK") 0x7e00 form.Constant8 Neither
row mnemonic.Sbrk = row_with (codes "SBRK") 0x7f00 form.Constant8 Neither
row mnemonic.In = row_with (codes "IN") 0x8000 form.PortMemory Writes
row mnemonic.Mpyk = row_with (codes "MPYK") 0xa000 form.Constant13 Neither
row mnemonic.Lark = row_with (codes "LARK") 0xc000 form.RegisterConstant Neither
row mnemonic.Ldpk = row_with (codes "LDPK") 0xc800 form.Constant9 Neither
row mnemonic.Lack = row_with (codes "LACK") 0xca00 form.Constant8 Neither
row mnemonic.Rptk = row_with (codes "RPTK") 0xcb00 form.Constant8 Neither
row mnemonic.Addk = row_with (codes "ADDK") 0xcc00 form.Constant8 Neither
row mnemonic.Subk = row_with (codes "SUBK") 0xcd00 form.Constant8 Neither
row mnemonic.Dint = row_with (codes "DINT") 0xce01 form.NoOperand Neither
row mnemonic.Rovm = row_with (codes "ROVM") 0xce02 form.NoOperand Neither
row mnemonic.Rsxm = row_with (codes "RSXM") 0xce06 form.NoOperand Neither
row mnemonic.Ssxm = row_with (codes "SSXM") 0xce07 form.NoOperand Neither
row mnemonic.Spm = row_with (codes "SPM") 0xce08 form.NoOperand Neither
row mnemonic.Pac = row_with (codes "PAC") 0xce14 form.NoOperand Neither
row mnemonic.Apac = row_with (codes "APAC") 0xce15 form.NoOperand Neither
row mnemonic.Spac = row_with (codes "SPAC") 0xce16 form.NoOperand Neither
row mnemonic.Sfl = row_with (codes "SFL") 0xce18 form.NoOperand Neither
row mnemonic.Sfr = row_with (codes "SFR") 0xce19 form.NoOperand Neither
row mnemonic.Idle = row_with (codes "IDLE") 0xce1f form.NoOperand Neither
row mnemonic.Neg = row_with (codes "NEG") 0xce23 form.NoOperand Neither
row mnemonic.Ret = row_with (codes "RET") 0xce26 form.NoOperand Neither
row mnemonic.Cmpl = row_with (codes "CMPL") 0xce27 form.NoOperand Neither
row mnemonic.Lrlk = row_with (codes "LRLK") 0xd000 form.RegisterWord Neither
row mnemonic.Lalk = row_with (codes "LALK") 0xd001 form.ShiftedWord Neither
row mnemonic.Adlk = row_with (codes "ADLK") 0xd002 form.ShiftedWord Neither
row mnemonic.Sblk = row_with (codes "SBLK") 0xd003 form.ShiftedWord Neither
row mnemonic.Andk = row_with (codes "ANDK") 0xd004 form.Word Neither
row mnemonic.Ork = row_with (codes "ORK") 0xd005 form.Word Neither
row mnemonic.Xork = row_with (codes "XORK") 0xd006 form.Word Neither
row mnemonic.Out = row_with (codes "OUT") 0xe000 form.PortMemory Reads
row (mnemonic.Branch op) = row_with (jump_name op) (jump_word op) form.Target Neither
row mnemonic.Call = row_with (codes "CALL") 0xfe00 form.Target Neither

-- the row of an instruction
abbrev pub row_of : Instr → Mnemonic
row_of (Add shift o) = mnemonic.Add
row_of (Sub shift o) = mnemonic.Sub
row_of (Lac shift o) = mnemonic.Lac
row_of (Lar register o) = mnemonic.Lar
row_of (Mpy o) = mnemonic.Mpy
row_of (Lt o) = mnemonic.Lt
row_of (Zals o) = mnemonic.Zals
row_of (Lact o) = mnemonic.Lact
row_of (Subs o) = mnemonic.Subs
row_of (Subc o) = mnemonic.Subc
row_of (Adds o) = mnemonic.Adds
row_of (Rpt o) = mnemonic.Rpt
row_of (Xor o) = mnemonic.Xor
row_of (Or o) = mnemonic.Or
row_of (And o) = mnemonic.And
row_of (Pshd o) = mnemonic.Pshd
row_of (Mar i) = mnemonic.Mar
row_of (Sacl shift o) = mnemonic.Sacl
row_of (Sach shift o) = mnemonic.Sach
row_of (Sar register o) = mnemonic.Sar
row_of (Popd o) = mnemonic.Popd
row_of (Adrk constant) = mnemonic.Adrk
row_of (Sbrk constant) = mnemonic.Sbrk
row_of (In port o) = mnemonic.In
row_of (Mpyk constant) = mnemonic.Mpyk
row_of (Lark register constant) = mnemonic.Lark
row_of (Ldpk constant) = mnemonic.Ldpk
row_of (Lack constant) = mnemonic.Lack
row_of (Rptk constant) = mnemonic.Rptk
row_of (Addk constant) = mnemonic.Addk
row_of (Subk constant) = mnemonic.Subk
row_of Dint = mnemonic.Dint
row_of Rovm = mnemonic.Rovm
row_of Rsxm = mnemonic.Rsxm
row_of Ssxm = mnemonic.Ssxm
row_of Spm = mnemonic.Spm
row_of Pac = mnemonic.Pac
row_of Apac = mnemonic.Apac
row_of Spac = mnemonic.Spac
row_of Sfl = mnemonic.Sfl
row_of Sfr = mnemonic.Sfr
row_of Idle = mnemonic.Idle
row_of Neg = mnemonic.Neg
row_of Ret = mnemonic.Ret
row_of Cmpl = mnemonic.Cmpl
row_of (Lrlk register word) = mnemonic.Lrlk
row_of (Lalk shift word) = mnemonic.Lalk
row_of (Adlk shift word) = mnemonic.Adlk
row_of (Sblk shift word) = mnemonic.Sblk
row_of (Andk word) = mnemonic.Andk
row_of (Ork word) = mnemonic.Ork
row_of (Xork word) = mnemonic.Xork
row_of (Out port o) = mnemonic.Out
row_of (Branch op to i) = mnemonic.Branch op
row_of (Call to i) = mnemonic.Call

-- its operands
abbrev pub fields_of : Instr → Fields
fields_of (Add shift o) = fields.ShiftedMemory shift o
fields_of (Sub shift o) = fields.ShiftedMemory shift o
fields_of (Lac shift o) = fields.ShiftedMemory shift o
fields_of (Lar register o) = fields.RegisterMemory register o
fields_of (Mpy o) = fields.Memory o
fields_of (Lt o) = fields.Memory o
fields_of (Zals o) = fields.Memory o
fields_of (Lact o) = fields.Memory o
fields_of (Subs o) = fields.Memory o
fields_of (Subc o) = fields.Memory o
fields_of (Adds o) = fields.Memory o
fields_of (Rpt o) = fields.Memory o
fields_of (Xor o) = fields.Memory o
fields_of (Or o) = fields.Memory o
fields_of (And o) = fields.Memory o
fields_of (Pshd o) = fields.Memory o
fields_of (Mar i) = fields.Pointer i
fields_of (Sacl shift o) = fields.ShiftedMemory shift o
fields_of (Sach shift o) = fields.ShiftedMemory shift o
fields_of (Sar register o) = fields.RegisterMemory register o
fields_of (Popd o) = fields.Memory o
fields_of (Adrk constant) = fields.Constant8 constant
fields_of (Sbrk constant) = fields.Constant8 constant
fields_of (In port o) = fields.PortMemory port o
fields_of (Mpyk constant) = fields.Constant13 constant
fields_of (Lark register constant) = fields.RegisterConstant register constant
fields_of (Ldpk constant) = fields.Constant9 constant
fields_of (Lack constant) = fields.Constant8 constant
fields_of (Rptk constant) = fields.Constant8 constant
fields_of (Addk constant) = fields.Constant8 constant
fields_of (Subk constant) = fields.Constant8 constant
fields_of Dint = fields.NoOperand
fields_of Rovm = fields.NoOperand
fields_of Rsxm = fields.NoOperand
fields_of Ssxm = fields.NoOperand
fields_of Spm = fields.NoOperand
fields_of Pac = fields.NoOperand
fields_of Apac = fields.NoOperand
fields_of Spac = fields.NoOperand
fields_of Sfl = fields.NoOperand
fields_of Sfr = fields.NoOperand
fields_of Idle = fields.NoOperand
fields_of Neg = fields.NoOperand
fields_of Ret = fields.NoOperand
fields_of Cmpl = fields.NoOperand
fields_of (Lrlk register word) = fields.RegisterWord register word
fields_of (Lalk shift word) = fields.ShiftedWord shift word
fields_of (Adlk shift word) = fields.ShiftedWord shift word
fields_of (Sblk shift word) = fields.ShiftedWord shift word
fields_of (Andk word) = fields.Word word
fields_of (Ork word) = fields.Word word
fields_of (Xork word) = fields.Word word
fields_of (Out port o) = fields.PortMemory port o
fields_of (Branch op to i) = fields.Target to i
fields_of (Call to i) = fields.Target to i

-- the instruction of a row with these operands, where the row takes operands of this form
abbrev pub instr_of : Mnemonic → Fields → Option Instr
instr_of mnemonic.Add (fields.ShiftedMemory shift o) = Some (Add shift o)
instr_of mnemonic.Sub (fields.ShiftedMemory shift o) = Some (Sub shift o)
instr_of mnemonic.Lac (fields.ShiftedMemory shift o) = Some (Lac shift o)
instr_of mnemonic.Lar (fields.RegisterMemory register o) = Some (Lar register o)
instr_of mnemonic.Mpy (fields.Memory o) = Some (Mpy o)
instr_of mnemonic.Lt (fields.Memory o) = Some (Lt o)
instr_of mnemonic.Zals (fields.Memory o) = Some (Zals o)
instr_of mnemonic.Lact (fields.Memory o) = Some (Lact o)
instr_of mnemonic.Subs (fields.Memory o) = Some (Subs o)
instr_of mnemonic.Subc (fields.Memory o) = Some (Subc o)
instr_of mnemonic.Adds (fields.Memory o) = Some (Adds o)
instr_of mnemonic.Rpt (fields.Memory o) = Some (Rpt o)
instr_of mnemonic.Xor (fields.Memory o) = Some (Xor o)
instr_of mnemonic.Or (fields.Memory o) = Some (Or o)
instr_of mnemonic.And (fields.Memory o) = Some (And o)
instr_of mnemonic.Pshd (fields.Memory o) = Some (Pshd o)
instr_of mnemonic.Mar (fields.Pointer i) = Some (Mar i)
instr_of mnemonic.Sacl (fields.ShiftedMemory shift o) = Some (Sacl shift o)
instr_of mnemonic.Sach (fields.ShiftedMemory shift o) = Some (Sach shift o)
instr_of mnemonic.Sar (fields.RegisterMemory register o) = Some (Sar register o)
instr_of mnemonic.Popd (fields.Memory o) = Some (Popd o)
instr_of mnemonic.Adrk (fields.Constant8 constant) = Some (Adrk constant)
instr_of mnemonic.Sbrk (fields.Constant8 constant) = Some (Sbrk constant)
instr_of mnemonic.In (fields.PortMemory port o) = Some (In port o)
instr_of mnemonic.Mpyk (fields.Constant13 constant) = Some (Mpyk constant)
instr_of mnemonic.Lark (fields.RegisterConstant register constant) = Some (Lark register constant)
instr_of mnemonic.Ldpk (fields.Constant9 constant) = Some (Ldpk constant)
instr_of mnemonic.Lack (fields.Constant8 constant) = Some (Lack constant)
instr_of mnemonic.Rptk (fields.Constant8 constant) = Some (Rptk constant)
instr_of mnemonic.Addk (fields.Constant8 constant) = Some (Addk constant)
instr_of mnemonic.Subk (fields.Constant8 constant) = Some (Subk constant)
instr_of mnemonic.Dint fields.NoOperand = Some Dint
instr_of mnemonic.Rovm fields.NoOperand = Some Rovm
instr_of mnemonic.Rsxm fields.NoOperand = Some Rsxm
instr_of mnemonic.Ssxm fields.NoOperand = Some Ssxm
instr_of mnemonic.Spm fields.NoOperand = Some Spm
instr_of mnemonic.Pac fields.NoOperand = Some Pac
instr_of mnemonic.Apac fields.NoOperand = Some Apac
instr_of mnemonic.Spac fields.NoOperand = Some Spac
instr_of mnemonic.Sfl fields.NoOperand = Some Sfl
instr_of mnemonic.Sfr fields.NoOperand = Some Sfr
instr_of mnemonic.Idle fields.NoOperand = Some Idle
instr_of mnemonic.Neg fields.NoOperand = Some Neg
instr_of mnemonic.Ret fields.NoOperand = Some Ret
instr_of mnemonic.Cmpl fields.NoOperand = Some Cmpl
instr_of mnemonic.Lrlk (fields.RegisterWord register word) = Some (Lrlk register word)
instr_of mnemonic.Lalk (fields.ShiftedWord shift word) = Some (Lalk shift word)
instr_of mnemonic.Adlk (fields.ShiftedWord shift word) = Some (Adlk shift word)
instr_of mnemonic.Sblk (fields.ShiftedWord shift word) = Some (Sblk shift word)
instr_of mnemonic.Andk (fields.Word word) = Some (Andk word)
instr_of mnemonic.Ork (fields.Word word) = Some (Ork word)
instr_of mnemonic.Xork (fields.Word word) = Some (Xork word)
instr_of mnemonic.Out (fields.PortMemory port o) = Some (Out port o)
instr_of (mnemonic.Branch op) (fields.Target to i) = Some (Branch op to i)
instr_of mnemonic.Call (fields.Target to i) = Some (Call to i)
instr_of m f = None

-- an instruction is this row with these operands
abbrev pub IsOf : Mnemonic → Fields → Instr → Type 0
IsOf m f i = (row_of i ≡ m) × (fields_of i ≡ f)
