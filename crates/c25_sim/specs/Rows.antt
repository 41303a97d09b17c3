-- Rows of the instruction table that change one thing, so that they are done alike, and the one that makes an output.
use Rattle.std.specs.Prelude.{Bool, true, false, Option, Some, None}
use Rattle.c25_isa.specs.declared.operand.Operand.{Operand}
use Rattle.c25_isa.specs.declared.instruction.Instr.{Instr}
use Rattle.c25_isa.specs.declared.instruction.Instr.TheVariants.{Add, Sub, Lac, Lar, Mpy, Lt, Zals, Lact, Subs, Subc, Adds, Rpt, Xor, Or, And, Pshd, Mar, Adrk, Sbrk, Mpyk, Lark, Ldpk, Lack, Rptk, Addk, Subk, Dint, Rovm, Rsxm, Ssxm, Spm, Pac, Apac, Spac, Sfl, Sfr, Neg, Cmpl, Lrlk, Lalk, Adlk, Sblk, Andk, Ork, Xork, Out}

-- the operand of the rows that change ACC through one
abbrev pub acc_operand : Instr → Option Operand
acc_operand (Add shift o) = Some o
acc_operand (Sub shift o) = Some o
acc_operand (Lac shift o) = Some o
acc_operand (Zals o) = Some o
acc_operand (Lact o) = Some o
acc_operand (Subs o) = Some o
acc_operand (Subc o) = Some o
acc_operand (Adds o) = Some o
acc_operand (Xor o) = Some o
acc_operand (Or o) = Some o
acc_operand (And o) = Some o
acc_operand i = None

-- the rows that change ACC alone
abbrev pub changes_acc : Instr → Bool
changes_acc (Lack constant) = true
changes_acc (Addk constant) = true
changes_acc (Subk constant) = true
changes_acc Pac = true
changes_acc Apac = true
changes_acc Spac = true
changes_acc Sfl = true
changes_acc Sfr = true
changes_acc Neg = true
changes_acc Cmpl = true
changes_acc (Lalk shift word) = true
changes_acc (Adlk shift word) = true
changes_acc (Sblk shift word) = true
changes_acc (Andk word) = true
changes_acc (Ork word) = true
changes_acc (Xork word) = true
changes_acc i = false

-- the rows that change another register or a mode, or nothing
abbrev pub sets : Instr → Bool
sets (Adrk constant) = true
sets (Sbrk constant) = true
sets (Mpyk constant) = true
sets (Lark register constant) = true
sets (Ldpk constant) = true
sets (Rptk constant) = true
sets Dint = true
sets Rovm = true
sets Rsxm = true
sets Ssxm = true
sets Spm = true
sets (Lrlk register word) = true
sets i = false

-- the rows that take a word of memory into another register or onto the stack, or follow an operand alone
abbrev pub sets_through : Instr → Bool
sets_through (Lar register o) = true
sets_through (Mpy o) = true
sets_through (Lt o) = true
sets_through (Rpt o) = true
sets_through (Pshd o) = true
sets_through (Mar i) = true
sets_through i = false

-- the row that makes an output
abbrev pub puts_word : Instr → Bool
puts_word (Out port o) = true
puts_word i = false
