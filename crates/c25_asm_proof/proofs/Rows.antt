-- The mnemonics of all rows.
use Rattle.std.proofs.Common.{◌≡◌, ◌<◌, false, [], length, Some, refl, arith, inl, inr}
use Rattle.std.specs.Prelude.{◌⊎◌}
use Rattle.c25_isa.specs.declared.instruction.JumpOp.TheVariants as jump
use Rattle.c25_isa.specs.declared.mnemonic.Mnemonic.{Mnemonic}
use Rattle.c25_isa.specs.declared.mnemonic.Mnemonic.TheVariants as mnemonic
use Rattle.c25_isa.specs.Rows.{row}
use Rattle.c25_dis.specs.Listing.{fixed_text}
use Rattle.c25_asm.specs.Statements.{mnemonic_of, is_data, has_fixed_operand}
use Rattle.c25_asm_proof.proofs.Plain.{ArePlain}
use Rattle.c25_asm_proof.proofs.Forms.{IsNarrow}

-- a row is read by its name
pub record IsRead (m : Mnemonic) : Type 0 where
  pub named : mnemonic_of (row m).name ≡ Some m
  pub no_data : is_data (row m).name ≡ false
  pub plain : ArePlain (row m).name
  pub some : 0 < length (row m).name
  pub narrow : IsNarrow (row m).form

pub rows_read : (m : Mnemonic) → IsRead m
rows_read mnemonic.Add = record { named = refl; no_data = refl; plain = refl; some = omega arith; narrow = omega arith }
rows_read mnemonic.Sub = record { named = refl; no_data = refl; plain = refl; some = omega arith; narrow = omega arith }
rows_read mnemonic.Lac = record { named = refl; no_data = refl; plain = refl; some = omega arith; narrow = omega arith }
rows_read mnemonic.Lar = record { named = refl; no_data = refl; plain = refl; some = omega arith; narrow = tt {0} }
rows_read mnemonic.Mpy = record { named = refl; no_data = refl; plain = refl; some = omega arith; narrow = tt {0} }
rows_read mnemonic.Lt = record { named = refl; no_data = refl; plain = refl; some = omega arith; narrow = tt {0} }
rows_read mnemonic.Zals = record { named = refl; no_data = refl; plain = refl; some = omega arith; narrow = tt {0} }
rows_read mnemonic.Lact = record { named = refl; no_data = refl; plain = refl; some = omega arith; narrow = tt {0} }
rows_read mnemonic.Subs = record { named = refl; no_data = refl; plain = refl; some = omega arith; narrow = tt {0} }
rows_read mnemonic.Subc = record { named = refl; no_data = refl; plain = refl; some = omega arith; narrow = tt {0} }
rows_read mnemonic.Adds = record { named = refl; no_data = refl; plain = refl; some = omega arith; narrow = tt {0} }
rows_read mnemonic.Rpt = record { named = refl; no_data = refl; plain = refl; some = omega arith; narrow = tt {0} }
rows_read mnemonic.Xor = record { named = refl; no_data = refl; plain = refl; some = omega arith; narrow = tt {0} }
rows_read mnemonic.Or = record { named = refl; no_data = refl; plain = refl; some = omega arith; narrow = tt {0} }
rows_read mnemonic.And = record { named = refl; no_data = refl; plain = refl; some = omega arith; narrow = tt {0} }
rows_read mnemonic.Pshd = record { named = refl; no_data = refl; plain = refl; some = omega arith; narrow = tt {0} }
rows_read mnemonic.Mar = record { named = refl; no_data = refl; plain = refl; some = omega arith; narrow = tt {0} }
rows_read mnemonic.Sacl = record { named = refl; no_data = refl; plain = refl; some = omega arith; narrow = omega arith }
rows_read mnemonic.Sach = record { named = refl; no_data = refl; plain = refl; some = omega arith; narrow = omega arith }
rows_read mnemonic.Sar = record { named = refl; no_data = refl; plain = refl; some = omega arith; narrow = tt {0} }
rows_read mnemonic.Popd = record { named = refl; no_data = refl; plain = refl; some = omega arith; narrow = tt {0} }
rows_read mnemonic.Adrk = record { named = refl; no_data = refl; plain = refl; some = omega arith; narrow = tt {0} }
rows_read mnemonic.Sbrk = record { named = refl; no_data = refl; plain = refl; some = omega arith; narrow = tt {0} }
rows_read mnemonic.In = record { named = refl; no_data = refl; plain = refl; some = omega arith; narrow = tt {0} }
rows_read mnemonic.Mpyk = record { named = refl; no_data = refl; plain = refl; some = omega arith; narrow = tt {0} }
rows_read mnemonic.Lark = record { named = refl; no_data = refl; plain = refl; some = omega arith; narrow = tt {0} }
rows_read mnemonic.Ldpk = record { named = refl; no_data = refl; plain = refl; some = omega arith; narrow = tt {0} }
rows_read mnemonic.Lack = record { named = refl; no_data = refl; plain = refl; some = omega arith; narrow = tt {0} }
rows_read mnemonic.Rptk = record { named = refl; no_data = refl; plain = refl; some = omega arith; narrow = tt {0} }
rows_read mnemonic.Addk = record { named = refl; no_data = refl; plain = refl; some = omega arith; narrow = tt {0} }
rows_read mnemonic.Subk = record { named = refl; no_data = refl; plain = refl; some = omega arith; narrow = tt {0} }
rows_read mnemonic.Dint = record { named = refl; no_data = refl; plain = refl; some = omega arith; narrow = tt {0} }
rows_read mnemonic.Rovm = record { named = refl; no_data = refl; plain = refl; some = omega arith; narrow = tt {0} }
rows_read mnemonic.Rsxm = record { named = refl; no_data = refl; plain = refl; some = omega arith; narrow = tt {0} }
rows_read mnemonic.Ssxm = record { named = refl; no_data = refl; plain = refl; some = omega arith; narrow = tt {0} }
rows_read mnemonic.Spm = record { named = refl; no_data = refl; plain = refl; some = omega arith; narrow = tt {0} }
rows_read mnemonic.Pac = record { named = refl; no_data = refl; plain = refl; some = omega arith; narrow = tt {0} }
rows_read mnemonic.Apac = record { named = refl; no_data = refl; plain = refl; some = omega arith; narrow = tt {0} }
rows_read mnemonic.Spac = record { named = refl; no_data = refl; plain = refl; some = omega arith; narrow = tt {0} }
rows_read mnemonic.Sfl = record { named = refl; no_data = refl; plain = refl; some = omega arith; narrow = tt {0} }
rows_read mnemonic.Sfr = record { named = refl; no_data = refl; plain = refl; some = omega arith; narrow = tt {0} }
rows_read mnemonic.Idle = record { named = refl; no_data = refl; plain = refl; some = omega arith; narrow = tt {0} }
rows_read mnemonic.Neg = record { named = refl; no_data = refl; plain = refl; some = omega arith; narrow = tt {0} }
rows_read mnemonic.Ret = record { named = refl; no_data = refl; plain = refl; some = omega arith; narrow = tt {0} }
rows_read mnemonic.Cmpl = record { named = refl; no_data = refl; plain = refl; some = omega arith; narrow = tt {0} }
rows_read mnemonic.Lrlk = record { named = refl; no_data = refl; plain = refl; some = omega arith; narrow = tt {0} }
rows_read mnemonic.Lalk = record { named = refl; no_data = refl; plain = refl; some = omega arith; narrow = tt {0} }
rows_read mnemonic.Adlk = record { named = refl; no_data = refl; plain = refl; some = omega arith; narrow = tt {0} }
rows_read mnemonic.Sblk = record { named = refl; no_data = refl; plain = refl; some = omega arith; narrow = tt {0} }
rows_read mnemonic.Andk = record { named = refl; no_data = refl; plain = refl; some = omega arith; narrow = tt {0} }
rows_read mnemonic.Ork = record { named = refl; no_data = refl; plain = refl; some = omega arith; narrow = tt {0} }
rows_read mnemonic.Xork = record { named = refl; no_data = refl; plain = refl; some = omega arith; narrow = tt {0} }
rows_read mnemonic.Out = record { named = refl; no_data = refl; plain = refl; some = omega arith; narrow = tt {0} }
rows_read (mnemonic.Branch jump.B) = record { named = refl; no_data = refl; plain = refl; some = omega arith; narrow = tt {0} }
rows_read (mnemonic.Branch jump.Bgz) = record { named = refl; no_data = refl; plain = refl; some = omega arith; narrow = tt {0} }
rows_read (mnemonic.Branch jump.Blez) = record { named = refl; no_data = refl; plain = refl; some = omega arith; narrow = tt {0} }
rows_read (mnemonic.Branch jump.Blz) = record { named = refl; no_data = refl; plain = refl; some = omega arith; narrow = tt {0} }
rows_read (mnemonic.Branch jump.Bgez) = record { named = refl; no_data = refl; plain = refl; some = omega arith; narrow = tt {0} }
rows_read (mnemonic.Branch jump.Bnz) = record { named = refl; no_data = refl; plain = refl; some = omega arith; narrow = tt {0} }
rows_read (mnemonic.Branch jump.Bz) = record { named = refl; no_data = refl; plain = refl; some = omega arith; narrow = tt {0} }
rows_read mnemonic.Call = record { named = refl; no_data = refl; plain = refl; some = omega arith; narrow = tt {0} }

-- only SPM has an operand that is always the same
pub spm_or_none : (m : Mnemonic) → (m ≡ mnemonic.Spm) ⊎ ((has_fixed_operand m ≡ false) × (fixed_text m ≡ []))
spm_or_none mnemonic.Spm = inl refl
spm_or_none mnemonic.Add = inr (refl, refl)
spm_or_none mnemonic.Sub = inr (refl, refl)
spm_or_none mnemonic.Lac = inr (refl, refl)
spm_or_none mnemonic.Lar = inr (refl, refl)
spm_or_none mnemonic.Mpy = inr (refl, refl)
spm_or_none mnemonic.Lt = inr (refl, refl)
spm_or_none mnemonic.Zals = inr (refl, refl)
spm_or_none mnemonic.Lact = inr (refl, refl)
spm_or_none mnemonic.Subs = inr (refl, refl)
spm_or_none mnemonic.Subc = inr (refl, refl)
spm_or_none mnemonic.Adds = inr (refl, refl)
spm_or_none mnemonic.Rpt = inr (refl, refl)
spm_or_none mnemonic.Xor = inr (refl, refl)
spm_or_none mnemonic.Or = inr (refl, refl)
spm_or_none mnemonic.And = inr (refl, refl)
spm_or_none mnemonic.Pshd = inr (refl, refl)
spm_or_none mnemonic.Mar = inr (refl, refl)
spm_or_none mnemonic.Sacl = inr (refl, refl)
spm_or_none mnemonic.Sach = inr (refl, refl)
spm_or_none mnemonic.Sar = inr (refl, refl)
spm_or_none mnemonic.Popd = inr (refl, refl)
spm_or_none mnemonic.Adrk = inr (refl, refl)
spm_or_none mnemonic.Sbrk = inr (refl, refl)
spm_or_none mnemonic.In = inr (refl, refl)
spm_or_none mnemonic.Mpyk = inr (refl, refl)
spm_or_none mnemonic.Lark = inr (refl, refl)
spm_or_none mnemonic.Ldpk = inr (refl, refl)
spm_or_none mnemonic.Lack = inr (refl, refl)
spm_or_none mnemonic.Rptk = inr (refl, refl)
spm_or_none mnemonic.Addk = inr (refl, refl)
spm_or_none mnemonic.Subk = inr (refl, refl)
spm_or_none mnemonic.Dint = inr (refl, refl)
spm_or_none mnemonic.Rovm = inr (refl, refl)
spm_or_none mnemonic.Rsxm = inr (refl, refl)
spm_or_none mnemonic.Ssxm = inr (refl, refl)
spm_or_none mnemonic.Pac = inr (refl, refl)
spm_or_none mnemonic.Apac = inr (refl, refl)
spm_or_none mnemonic.Spac = inr (refl, refl)
spm_or_none mnemonic.Sfl = inr (refl, refl)
spm_or_none mnemonic.Sfr = inr (refl, refl)
spm_or_none mnemonic.Idle = inr (refl, refl)
spm_or_none mnemonic.Neg = inr (refl, refl)
spm_or_none mnemonic.Ret = inr (refl, refl)
spm_or_none mnemonic.Cmpl = inr (refl, refl)
spm_or_none mnemonic.Lrlk = inr (refl, refl)
spm_or_none mnemonic.Lalk = inr (refl, refl)
spm_or_none mnemonic.Adlk = inr (refl, refl)
spm_or_none mnemonic.Sblk = inr (refl, refl)
spm_or_none mnemonic.Andk = inr (refl, refl)
spm_or_none mnemonic.Ork = inr (refl, refl)
spm_or_none mnemonic.Xork = inr (refl, refl)
spm_or_none mnemonic.Out = inr (refl, refl)
spm_or_none (mnemonic.Branch op) = inr (refl, refl)
spm_or_none mnemonic.Call = inr (refl, refl)
