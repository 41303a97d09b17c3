-- What the table says of data memory is what the machine does with it.
use Rattle.std.proofs.Common.{◌≡◌, ℕ, Bool, true, false, List, [], ◌∷◌, is_some, refl}
use Rattle.c25_isa.specs.declared.operand.Indirect.{Indirect}
use Rattle.c25_isa.specs.declared.operand.Operand.{Operand}
use Rattle.c25_isa.specs.declared.operand.Operand.TheVariants as operand
use Rattle.c25_isa.specs.declared.instruction.Instr.{Instr}
use Rattle.c25_isa.specs.declared.instruction.Instr.TheVariants.{Add, Sub, Lac, Lar, Mpy, Lt, Zals, Lact, Subs, Subc, Adds, Rpt, Xor, Or, And, Pshd, Mar, Sacl, Sach, Sar, Popd, Adrk, Sbrk, In, Mpyk, Lark, Ldpk, Lack, Rptk, Addk, Subk, Dint, Rovm, Rsxm, Ssxm, Spm, Pac, Apac, Spac, Sfl, Sfr, Idle, Neg, Ret, Cmpl, Lrlk, Lalk, Adlk, Sblk, Andk, Ork, Xork, Out, Branch, Call}
use Rattle.c25_isa.specs.Rows.{row, row_of, fields_of}
use Rattle.c25_isa.specs.Table.{memory_of}
use Rattle.c25_isa.specs.MemoryUse.{has_operand, writes, LeavesRam}
use Rattle.c25_isa.specs.State.{State}
use Rattle.c25_isa.specs.Step.{after_operand, jumps, returns, holds, effect}

-- a row has an access exactly where it has an operand of data memory
pub operand_accessed : (i : Instr) → has_operand (row (row_of i)).memory ≡ is_some (memory_of (fields_of i))
operand_accessed (Add shift o) = refl
operand_accessed (Sub shift o) = refl
operand_accessed (Lac shift o) = refl
operand_accessed (Lar register o) = refl
operand_accessed (Mpy o) = refl
operand_accessed (Lt o) = refl
operand_accessed (Zals o) = refl
operand_accessed (Lact o) = refl
operand_accessed (Subs o) = refl
operand_accessed (Subc o) = refl
operand_accessed (Adds o) = refl
operand_accessed (Rpt o) = refl
operand_accessed (Xor o) = refl
operand_accessed (Or o) = refl
operand_accessed (And o) = refl
operand_accessed (Pshd o) = refl
operand_accessed (Mar i) = refl
operand_accessed (Sacl shift o) = refl
operand_accessed (Sach shift o) = refl
operand_accessed (Sar register o) = refl
operand_accessed (Popd o) = refl
operand_accessed (Adrk constant) = refl
operand_accessed (Sbrk constant) = refl
operand_accessed (In port o) = refl
operand_accessed (Mpyk constant) = refl
operand_accessed (Lark register constant) = refl
operand_accessed (Ldpk constant) = refl
operand_accessed (Lack constant) = refl
operand_accessed (Rptk constant) = refl
operand_accessed (Addk constant) = refl
operand_accessed (Subk constant) = refl
operand_accessed Dint = refl
operand_accessed Rovm = refl
operand_accessed Rsxm = refl
operand_accessed Ssxm = refl
operand_accessed Spm = refl
operand_accessed Pac = refl
operand_accessed Apac = refl
operand_accessed Spac = refl
operand_accessed Sfl = refl
operand_accessed Sfr = refl
operand_accessed Idle = refl
operand_accessed Neg = refl
operand_accessed Ret = refl
operand_accessed Cmpl = refl
operand_accessed (Lrlk register word) = refl
operand_accessed (Lalk shift word) = refl
operand_accessed (Adlk shift word) = refl
operand_accessed (Sblk shift word) = refl
operand_accessed (Andk word) = refl
operand_accessed (Ork word) = refl
operand_accessed (Xork word) = refl
operand_accessed (Out port o) = refl
operand_accessed (Branch op to i) = refl
operand_accessed (Call to i) = refl

-- an operand changes no word
operand_leaves : (t : State) (o : Operand) → (after_operand t o).ram ≡ t.ram
operand_leaves t (operand.Direct offset) = refl
operand_leaves t (operand.Indirect i) = refl

jump_leaves : (s : State) (len to : ℕ) (i : Indirect) (b : Bool) → LeavesRam s (jumps len s i to b)
jump_leaves s len to i true = refl
jump_leaves s len to i false = refl

return_leaves : (s : State) (stack : List ℕ) → LeavesRam s (returns s stack)
return_leaves s [] = tt
return_leaves s (word ∷ rest) = refl

-- a row that doesn't write leaves data memory as it was
pub read_leaves : (s : State) (len : ℕ) (i : Instr) → writes (row (row_of i)).memory ≡ false → LeavesRam s (effect s len i)
read_leaves s len (Add shift o) none = operand_leaves _ o
read_leaves s len (Sub shift o) none = operand_leaves _ o
read_leaves s len (Lac shift o) none = operand_leaves _ o
read_leaves s len (Lar register o) none = operand_leaves _ o
read_leaves s len (Mpy o) none = operand_leaves _ o
read_leaves s len (Lt o) none = operand_leaves _ o
read_leaves s len (Zals o) none = operand_leaves _ o
read_leaves s len (Lact o) none = operand_leaves _ o
read_leaves s len (Subs o) none = operand_leaves _ o
read_leaves s len (Subc o) none = operand_leaves _ o
read_leaves s len (Adds o) none = operand_leaves _ o
read_leaves s len (Rpt o) none = operand_leaves _ o
read_leaves s len (Xor o) none = operand_leaves _ o
read_leaves s len (Or o) none = operand_leaves _ o
read_leaves s len (And o) none = operand_leaves _ o
read_leaves s len (Pshd o) none = operand_leaves _ o
read_leaves s len (Mar i) none = refl
read_leaves s len (Sacl shift o) none = cc
read_leaves s len (Sach shift o) none = cc
read_leaves s len (Sar register o) none = cc
read_leaves s len (Popd o) none = cc
read_leaves s len (Adrk constant) none = refl
read_leaves s len (Sbrk constant) none = refl
read_leaves s len (In port o) none = cc
read_leaves s len (Mpyk constant) none = refl
read_leaves s len (Lark register constant) none = refl
read_leaves s len (Ldpk constant) none = refl
read_leaves s len (Lack constant) none = refl
read_leaves s len (Rptk constant) none = refl
read_leaves s len (Addk constant) none = refl
read_leaves s len (Subk constant) none = refl
read_leaves s len Dint none = refl
read_leaves s len Rovm none = refl
read_leaves s len Rsxm none = refl
read_leaves s len Ssxm none = refl
read_leaves s len Spm none = refl
read_leaves s len Pac none = refl
read_leaves s len Apac none = refl
read_leaves s len Spac none = refl
read_leaves s len Sfl none = refl
read_leaves s len Sfr none = refl
read_leaves s len Idle none = tt
read_leaves s len Neg none = refl
read_leaves s len Ret none = return_leaves s s.stack
read_leaves s len Cmpl none = refl
read_leaves s len (Lrlk register word) none = refl
read_leaves s len (Lalk shift word) none = refl
read_leaves s len (Adlk shift word) none = refl
read_leaves s len (Sblk shift word) none = refl
read_leaves s len (Andk word) none = refl
read_leaves s len (Ork word) none = refl
read_leaves s len (Xork word) none = refl
read_leaves s len (Out port o) none = operand_leaves _ o
read_leaves s len (Branch op to i) none = jump_leaves s len to i (holds op s)
read_leaves s len (Call to i) none = refl
