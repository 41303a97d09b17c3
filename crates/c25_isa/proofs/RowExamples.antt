-- What docs/MACHINE.md says of all rows together.
use Rattle.std.proofs.Common.{◌≡◌, ℕ, Bool, true, List, [], ◌∷◌, filter, map, refl}
use Rattle.std.specs.Prelude.{codes, not, ◌&&◌}
use Rattle.std.specs.List.{list_any}
use Rattle.std.specs.Str.{bytes_eq}
use Rattle.c25_isa.specs.declared.instruction.JumpOp.TheVariants as jump
use Rattle.c25_isa.specs.declared.mnemonic.Mnemonic.{Mnemonic}
use Rattle.c25_isa.specs.declared.mnemonic.Mnemonic.TheVariants as mnemonic
use Rattle.c25_isa.specs.Rows.{row}
use Rattle.c25_isa.specs.MemoryUse.{has_operand, writes}

-- each row once
abbrev all_rows : List Mnemonic
all_rows = mnemonic.Add ∷ mnemonic.Sub ∷ mnemonic.Lac ∷ mnemonic.Lar ∷ mnemonic.Mpy ∷ mnemonic.Lt ∷ mnemonic.Zals ∷ mnemonic.Lact ∷ mnemonic.Subs ∷ mnemonic.Subc ∷ mnemonic.Adds ∷ mnemonic.Rpt ∷ mnemonic.Xor ∷ mnemonic.Or ∷ mnemonic.And ∷ mnemonic.Pshd ∷ mnemonic.Mar ∷ mnemonic.Sacl ∷ mnemonic.Sach ∷ mnemonic.Sar ∷ mnemonic.Popd ∷ mnemonic.Adrk ∷ mnemonic.Sbrk ∷ mnemonic.In ∷ mnemonic.Mpyk ∷ mnemonic.Lark ∷ mnemonic.Ldpk ∷ mnemonic.Lack ∷ mnemonic.Rptk ∷ mnemonic.Addk ∷ mnemonic.Subk ∷ mnemonic.Dint ∷ mnemonic.Rovm ∷ mnemonic.Rsxm ∷ mnemonic.Ssxm ∷ mnemonic.Spm ∷ mnemonic.Pac ∷ mnemonic.Apac ∷ mnemonic.Spac ∷ mnemonic.Sfl ∷ mnemonic.Sfr ∷ mnemonic.Idle ∷ mnemonic.Neg ∷ mnemonic.Ret ∷ mnemonic.Cmpl ∷ mnemonic.Lrlk ∷ mnemonic.Lalk ∷ mnemonic.Adlk ∷ mnemonic.Sblk ∷ mnemonic.Andk ∷ mnemonic.Ork ∷ mnemonic.Xork ∷ mnemonic.Out ∷ mnemonic.Call ∷ (mnemonic.Branch jump.Bgz) ∷ (mnemonic.Branch jump.Blez) ∷ (mnemonic.Branch jump.Blz) ∷ (mnemonic.Branch jump.Bgez) ∷ (mnemonic.Branch jump.Bnz) ∷ (mnemonic.Branch jump.Bz) ∷ (mnemonic.Branch jump.B) ∷ []

-- five rows store
stores : filter (λ m. writes (row m).memory) all_rows ≡ mnemonic.Sacl ∷ mnemonic.Sach ∷ mnemonic.Sar ∷ mnemonic.Popd ∷ mnemonic.In ∷ []
stores = refl

-- seventeen rows read a word of data memory, OUT the last of them
reads : filter (λ m. has_operand (row m).memory && not (writes (row m).memory)) all_rows
    ≡ mnemonic.Add ∷ mnemonic.Sub ∷ mnemonic.Lac ∷ mnemonic.Lar ∷ mnemonic.Mpy ∷ mnemonic.Lt ∷ mnemonic.Zals ∷ mnemonic.Lact ∷ mnemonic.Subs ∷ mnemonic.Subc ∷ mnemonic.Adds ∷ mnemonic.Rpt ∷ mnemonic.Xor ∷ mnemonic.Or ∷ mnemonic.And ∷ mnemonic.Pshd ∷ mnemonic.Out ∷ []
reads = refl

abbrev differ : List (List ℕ) → Bool
differ [] = true
differ (name ∷ names) = not (list_any (bytes_eq name) names) && differ names

-- no two rows have one name
names_differ : differ (map (λ m. (row m).name) all_rows) ≡ true
names_differ = refl

-- some names, as the guide spells them
loads : (row mnemonic.Lac).name ≡ codes "LAC"
loads = refl

divides : (row mnemonic.Subc).name ≡ codes "SUBC"
divides = refl

jumps : (row (mnemonic.Branch jump.Blez)).name ≡ codes "BLEZ"
jumps = refl
