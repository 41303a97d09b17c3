-- A row with operands is an instruction, both ways.
use Rattle.std.proofs.Common.{◌≡◌, Some, IfSome, refl}
use Rattle.c25_isa.specs.declared.instruction.Instr.{Instr}
use Rattle.c25_isa.specs.declared.instruction.Instr.TheVariants.{Add, Sub, Lac, Lar, Mpy, Lt, Zals, Lact, Subs, Subc, Adds, Rpt, Xor, Or, And, Pshd, Mar, Sacl, Sach, Sar, Popd, Adrk, Sbrk, In, Mpyk, Lark, Ldpk, Lack, Rptk, Addk, Subk, Dint, Rovm, Rsxm, Ssxm, Spm, Pac, Apac, Spac, Sfl, Sfr, Idle, Neg, Ret, Cmpl, Lrlk, Lalk, Adlk, Sblk, Andk, Ork, Xork, Out, Branch, Call}
use Rattle.c25_isa.specs.declared.mnemonic.Mnemonic.{Mnemonic}
use Rattle.c25_isa.specs.declared.mnemonic.Mnemonic.TheVariants as mnemonic
use Rattle.c25_isa.specs.declared.fields.Fields.{Fields}
use Rattle.c25_isa.specs.declared.fields.Fields.TheVariants as fields
use Rattle.c25_isa.specs.Rows.{row, row_of, fields_of, instr_of, IsOf}
use Rattle.c25_isa.specs.Table.{FitsForm, IsInstr}

pub instr_of-parts : (i : Instr) → instr_of (row_of i) (fields_of i) ≡ Some i
instr_of-parts (Add shift o) = refl
instr_of-parts (Sub shift o) = refl
instr_of-parts (Lac shift o) = refl
instr_of-parts (Lar register o) = refl
instr_of-parts (Mpy o) = refl
instr_of-parts (Lt o) = refl
instr_of-parts (Zals o) = refl
instr_of-parts (Lact o) = refl
instr_of-parts (Subs o) = refl
instr_of-parts (Subc o) = refl
instr_of-parts (Adds o) = refl
instr_of-parts (Rpt o) = refl
instr_of-parts (Xor o) = refl
instr_of-parts (Or o) = refl
instr_of-parts (And o) = refl
instr_of-parts (Pshd o) = refl
instr_of-parts (Mar i) = refl
instr_of-parts (Sacl shift o) = refl
instr_of-parts (Sach shift o) = refl
instr_of-parts (Sar register o) = refl
instr_of-parts (Popd o) = refl
instr_of-parts (Adrk constant) = refl
instr_of-parts (Sbrk constant) = refl
instr_of-parts (In port o) = refl
instr_of-parts (Mpyk constant) = refl
instr_of-parts (Lark register constant) = refl
instr_of-parts (Ldpk constant) = refl
instr_of-parts (Lack constant) = refl
instr_of-parts (Rptk constant) = refl
instr_of-parts (Addk constant) = refl
instr_of-parts (Subk constant) = refl
instr_of-parts Dint = refl
instr_of-parts Rovm = refl
instr_of-parts Rsxm = refl
instr_of-parts Ssxm = refl
instr_of-parts Spm = refl
instr_of-parts Pac = refl
instr_of-parts Apac = refl
instr_of-parts Spac = refl
instr_of-parts Sfl = refl
instr_of-parts Sfr = refl
instr_of-parts Idle = refl
instr_of-parts Neg = refl
instr_of-parts Ret = refl
instr_of-parts Cmpl = refl
instr_of-parts (Lrlk register word) = refl
instr_of-parts (Lalk shift word) = refl
instr_of-parts (Adlk shift word) = refl
instr_of-parts (Sblk shift word) = refl
instr_of-parts (Andk word) = refl
instr_of-parts (Ork word) = refl
instr_of-parts (Xork word) = refl
instr_of-parts (Out port o) = refl
instr_of-parts (Branch op to i) = refl
instr_of-parts (Call to i) = refl

-- what is made of a row and operands has these
pub parts-instr_of : (m : Mnemonic) (f : Fields) → IfSome (instr_of m f) (IsOf m f)
parts-instr_of mnemonic.Add (fields.ShiftedMemory shift o) = (refl, refl)
parts-instr_of mnemonic.Sub (fields.ShiftedMemory shift o) = (refl, refl)
parts-instr_of mnemonic.Lac (fields.ShiftedMemory shift o) = (refl, refl)
parts-instr_of mnemonic.Lar (fields.RegisterMemory register o) = (refl, refl)
parts-instr_of mnemonic.Mpy (fields.Memory o) = (refl, refl)
parts-instr_of mnemonic.Lt (fields.Memory o) = (refl, refl)
parts-instr_of mnemonic.Zals (fields.Memory o) = (refl, refl)
parts-instr_of mnemonic.Lact (fields.Memory o) = (refl, refl)
parts-instr_of mnemonic.Subs (fields.Memory o) = (refl, refl)
parts-instr_of mnemonic.Subc (fields.Memory o) = (refl, refl)
parts-instr_of mnemonic.Adds (fields.Memory o) = (refl, refl)
parts-instr_of mnemonic.Rpt (fields.Memory o) = (refl, refl)
parts-instr_of mnemonic.Xor (fields.Memory o) = (refl, refl)
parts-instr_of mnemonic.Or (fields.Memory o) = (refl, refl)
parts-instr_of mnemonic.And (fields.Memory o) = (refl, refl)
parts-instr_of mnemonic.Pshd (fields.Memory o) = (refl, refl)
parts-instr_of mnemonic.Mar (fields.Pointer i) = (refl, refl)
parts-instr_of mnemonic.Sacl (fields.ShiftedMemory shift o) = (refl, refl)
parts-instr_of mnemonic.Sach (fields.ShiftedMemory shift o) = (refl, refl)
parts-instr_of mnemonic.Sar (fields.RegisterMemory register o) = (refl, refl)
parts-instr_of mnemonic.Popd (fields.Memory o) = (refl, refl)
parts-instr_of mnemonic.Adrk (fields.Constant8 constant) = (refl, refl)
parts-instr_of mnemonic.Sbrk (fields.Constant8 constant) = (refl, refl)
parts-instr_of mnemonic.In (fields.PortMemory port o) = (refl, refl)
parts-instr_of mnemonic.Mpyk (fields.Constant13 constant) = (refl, refl)
parts-instr_of mnemonic.Lark (fields.RegisterConstant register constant) = (refl, refl)
parts-instr_of mnemonic.Ldpk (fields.Constant9 constant) = (refl, refl)
parts-instr_of mnemonic.Lack (fields.Constant8 constant) = (refl, refl)
parts-instr_of mnemonic.Rptk (fields.Constant8 constant) = (refl, refl)
parts-instr_of mnemonic.Addk (fields.Constant8 constant) = (refl, refl)
parts-instr_of mnemonic.Subk (fields.Constant8 constant) = (refl, refl)
parts-instr_of mnemonic.Dint fields.NoOperand = (refl, refl)
parts-instr_of mnemonic.Rovm fields.NoOperand = (refl, refl)
parts-instr_of mnemonic.Rsxm fields.NoOperand = (refl, refl)
parts-instr_of mnemonic.Ssxm fields.NoOperand = (refl, refl)
parts-instr_of mnemonic.Spm fields.NoOperand = (refl, refl)
parts-instr_of mnemonic.Pac fields.NoOperand = (refl, refl)
parts-instr_of mnemonic.Apac fields.NoOperand = (refl, refl)
parts-instr_of mnemonic.Spac fields.NoOperand = (refl, refl)
parts-instr_of mnemonic.Sfl fields.NoOperand = (refl, refl)
parts-instr_of mnemonic.Sfr fields.NoOperand = (refl, refl)
parts-instr_of mnemonic.Idle fields.NoOperand = (refl, refl)
parts-instr_of mnemonic.Neg fields.NoOperand = (refl, refl)
parts-instr_of mnemonic.Ret fields.NoOperand = (refl, refl)
parts-instr_of mnemonic.Cmpl fields.NoOperand = (refl, refl)
parts-instr_of mnemonic.Lrlk (fields.RegisterWord register word) = (refl, refl)
parts-instr_of mnemonic.Lalk (fields.ShiftedWord shift word) = (refl, refl)
parts-instr_of mnemonic.Adlk (fields.ShiftedWord shift word) = (refl, refl)
parts-instr_of mnemonic.Sblk (fields.ShiftedWord shift word) = (refl, refl)
parts-instr_of mnemonic.Andk (fields.Word word) = (refl, refl)
parts-instr_of mnemonic.Ork (fields.Word word) = (refl, refl)
parts-instr_of mnemonic.Xork (fields.Word word) = (refl, refl)
parts-instr_of mnemonic.Out (fields.PortMemory port o) = (refl, refl)
parts-instr_of (mnemonic.Branch op) (fields.Target to i) = (refl, refl)
parts-instr_of mnemonic.Call (fields.Target to i) = (refl, refl)
parts-instr_of m f = tt

-- operands as a row takes them make an instruction of it
pub made : (m : Mnemonic) (f : Fields) → FitsForm (row m).form f → (i : Instr) × (instr_of m f ≡ Some i) × IsInstr i
made mnemonic.Add (fields.ShiftedMemory shift o) h = (Add shift o, refl, h)
made mnemonic.Sub (fields.ShiftedMemory shift o) h = (Sub shift o, refl, h)
made mnemonic.Lac (fields.ShiftedMemory shift o) h = (Lac shift o, refl, h)
made mnemonic.Lar (fields.RegisterMemory register o) h = (Lar register o, refl, h)
made mnemonic.Mpy (fields.Memory o) h = (Mpy o, refl, h)
made mnemonic.Lt (fields.Memory o) h = (Lt o, refl, h)
made mnemonic.Zals (fields.Memory o) h = (Zals o, refl, h)
made mnemonic.Lact (fields.Memory o) h = (Lact o, refl, h)
made mnemonic.Subs (fields.Memory o) h = (Subs o, refl, h)
made mnemonic.Subc (fields.Memory o) h = (Subc o, refl, h)
made mnemonic.Adds (fields.Memory o) h = (Adds o, refl, h)
made mnemonic.Rpt (fields.Memory o) h = (Rpt o, refl, h)
made mnemonic.Xor (fields.Memory o) h = (Xor o, refl, h)
made mnemonic.Or (fields.Memory o) h = (Or o, refl, h)
made mnemonic.And (fields.Memory o) h = (And o, refl, h)
made mnemonic.Pshd (fields.Memory o) h = (Pshd o, refl, h)
made mnemonic.Mar (fields.Pointer i) h = (Mar i, refl, h)
made mnemonic.Sacl (fields.ShiftedMemory shift o) h = (Sacl shift o, refl, h)
made mnemonic.Sach (fields.ShiftedMemory shift o) h = (Sach shift o, refl, h)
made mnemonic.Sar (fields.RegisterMemory register o) h = (Sar register o, refl, h)
made mnemonic.Popd (fields.Memory o) h = (Popd o, refl, h)
made mnemonic.Adrk (fields.Constant8 constant) h = (Adrk constant, refl, h)
made mnemonic.Sbrk (fields.Constant8 constant) h = (Sbrk constant, refl, h)
made mnemonic.In (fields.PortMemory port o) h = (In port o, refl, h)
made mnemonic.Mpyk (fields.Constant13 constant) h = (Mpyk constant, refl, h)
made mnemonic.Lark (fields.RegisterConstant register constant) h = (Lark register constant, refl, h)
made mnemonic.Ldpk (fields.Constant9 constant) h = (Ldpk constant, refl, h)
made mnemonic.Lack (fields.Constant8 constant) h = (Lack constant, refl, h)
made mnemonic.Rptk (fields.Constant8 constant) h = (Rptk constant, refl, h)
made mnemonic.Addk (fields.Constant8 constant) h = (Addk constant, refl, h)
made mnemonic.Subk (fields.Constant8 constant) h = (Subk constant, refl, h)
made mnemonic.Dint fields.NoOperand h = (Dint, refl, h)
made mnemonic.Rovm fields.NoOperand h = (Rovm, refl, h)
made mnemonic.Rsxm fields.NoOperand h = (Rsxm, refl, h)
made mnemonic.Ssxm fields.NoOperand h = (Ssxm, refl, h)
made mnemonic.Spm fields.NoOperand h = (Spm, refl, h)
made mnemonic.Pac fields.NoOperand h = (Pac, refl, h)
made mnemonic.Apac fields.NoOperand h = (Apac, refl, h)
made mnemonic.Spac fields.NoOperand h = (Spac, refl, h)
made mnemonic.Sfl fields.NoOperand h = (Sfl, refl, h)
made mnemonic.Sfr fields.NoOperand h = (Sfr, refl, h)
made mnemonic.Idle fields.NoOperand h = (Idle, refl, h)
made mnemonic.Neg fields.NoOperand h = (Neg, refl, h)
made mnemonic.Ret fields.NoOperand h = (Ret, refl, h)
made mnemonic.Cmpl fields.NoOperand h = (Cmpl, refl, h)
made mnemonic.Lrlk (fields.RegisterWord register word) h = (Lrlk register word, refl, h)
made mnemonic.Lalk (fields.ShiftedWord shift word) h = (Lalk shift word, refl, h)
made mnemonic.Adlk (fields.ShiftedWord shift word) h = (Adlk shift word, refl, h)
made mnemonic.Sblk (fields.ShiftedWord shift word) h = (Sblk shift word, refl, h)
made mnemonic.Andk (fields.Word word) h = (Andk word, refl, h)
made mnemonic.Ork (fields.Word word) h = (Ork word, refl, h)
made mnemonic.Xork (fields.Word word) h = (Xork word, refl, h)
made mnemonic.Out (fields.PortMemory port o) h = (Out port o, refl, h)
made (mnemonic.Branch op) (fields.Target to i) h = (Branch op to i, refl, h)
made mnemonic.Call (fields.Target to i) h = (Call to i, refl, h)
made m f h = absurd h
