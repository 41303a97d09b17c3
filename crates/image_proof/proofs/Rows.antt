-- What a walk finds in the instruction of a row: an access through its operand alone, and nothing that is counted. Only AR1 may be loaded.
use Rattle.std.proofs.Common.{◌≡◌, ℕ, true, false, if◌then◌else◌, Some, None, refl, ap}
use Rattle.std.specs.Prelude.{◌==◌}
use Rattle.c25_isa.specs.declared.operand.Operand.{Operand}
use Rattle.c25_isa.specs.declared.instruction.Instr.{Instr}
use Rattle.c25_isa.specs.Walk.{Known, Access, Unlisted, access, access_through, as_indirect, known_behind, known_behind_indirect}
use Rattle.c25_isa.specs.AddressCount.{is_address_instruction}
use Rattle.acc_code.specs.declared.operation.AccOp.{AccOp}
use Rattle.acc_code.specs.declared.operation.AccOp.TheVariants as row
use Rattle.emit_blocks.specs.Instructions.{word_instr, constant_instr}
use Rattle.image_proof.specs.emit_proof.Direct.{takes_word}

-- this is accessed, and behind it this is known but of AR1
pub record Finds (k : Known) (i : Instr) (found : Access) (behind : Known) : Type 0 where
  pub access : access k i ≡ found
  pub count : is_address_instruction k i ≡ false
  pub arp : (known_behind k i).arp ≡ behind.arp
  pub ar : (q : ℕ) → (q == 1) ≡ false → (known_behind k i).ar q ≡ behind.ar q

pub row_is : (k : Known) (m : Operand) (o : AccOp) → takes_word o ≡ true → Finds k (word_instr o m) (access_through k (as_indirect m)) (known_behind_indirect k (as_indirect m))
row_is k m row.Point takes = record { access = refl; count = refl; arp = refl; ar = λ q other. ap (λ b. if b then None else (known_behind_indirect k (as_indirect m)).ar q) other }
row_is k m (row.Add n) takes = record { access = refl; count = refl; arp = refl; ar = λ q other. refl }
row_is k m (row.Sub n) takes = record { access = refl; count = refl; arp = refl; ar = λ q other. refl }
row_is k m (row.Lac n) takes = record { access = refl; count = refl; arp = refl; ar = λ q other. refl }
row_is k m (row.Sacl n) takes = record { access = refl; count = refl; arp = refl; ar = λ q other. refl }
row_is k m (row.Sach n) takes = record { access = refl; count = refl; arp = refl; ar = λ q other. refl }
row_is k m (row.In n) takes = record { access = refl; count = refl; arp = refl; ar = λ q other. refl }
row_is k m (row.Out n) takes = record { access = refl; count = refl; arp = refl; ar = λ q other. refl }
row_is k m row.Mpy takes = record { access = refl; count = refl; arp = refl; ar = λ q other. refl }
row_is k m row.Lt takes = record { access = refl; count = refl; arp = refl; ar = λ q other. refl }
row_is k m row.Zals takes = record { access = refl; count = refl; arp = refl; ar = λ q other. refl }
row_is k m row.Lact takes = record { access = refl; count = refl; arp = refl; ar = λ q other. refl }
row_is k m row.Subs takes = record { access = refl; count = refl; arp = refl; ar = λ q other. refl }
row_is k m row.Adds takes = record { access = refl; count = refl; arp = refl; ar = λ q other. refl }
row_is k m row.Xor takes = record { access = refl; count = refl; arp = refl; ar = λ q other. refl }
row_is k m row.Or takes = record { access = refl; count = refl; arp = refl; ar = λ q other. refl }
row_is k m row.And takes = record { access = refl; count = refl; arp = refl; ar = λ q other. refl }
row_is k m row.Mpyk takes = absurd cc
row_is k m row.Lack takes = absurd cc
row_is k m row.Addk takes = absurd cc
row_is k m row.Subk takes = absurd cc
row_is k m row.Andk takes = absurd cc
row_is k m row.Ork takes = absurd cc
row_is k m row.Xork takes = absurd cc
row_is k m row.Dint takes = absurd cc
row_is k m row.Rovm takes = absurd cc
row_is k m row.Rsxm takes = absurd cc
row_is k m row.Ssxm takes = absurd cc
row_is k m row.Spm takes = absurd cc
row_is k m row.Pac takes = absurd cc
row_is k m row.Apac takes = absurd cc
row_is k m row.Spac takes = absurd cc
row_is k m row.Sfl takes = absurd cc
row_is k m row.Sfr takes = absurd cc
row_is k m row.Neg takes = absurd cc
row_is k m row.Cmpl takes = absurd cc
row_is k m (row.Lalk n) takes = absurd cc
row_is k m (row.Adlk n) takes = absurd cc
row_is k m (row.Sblk n) takes = absurd cc

pub constant_is : (k : Known) (c : ℕ) (o : AccOp) → Finds k (constant_instr o c) Unlisted k
constant_is k c row.Point = record { access = refl; count = refl; arp = refl; ar = λ q other. ap (λ b. if b then Some c else k.ar q) other }
constant_is k c (row.Add n) = record { access = refl; count = refl; arp = refl; ar = λ q other. refl }
constant_is k c (row.Sub n) = record { access = refl; count = refl; arp = refl; ar = λ q other. refl }
constant_is k c (row.Lac n) = record { access = refl; count = refl; arp = refl; ar = λ q other. refl }
constant_is k c (row.Sacl n) = record { access = refl; count = refl; arp = refl; ar = λ q other. refl }
constant_is k c (row.Sach n) = record { access = refl; count = refl; arp = refl; ar = λ q other. refl }
constant_is k c (row.In n) = record { access = refl; count = refl; arp = refl; ar = λ q other. refl }
constant_is k c (row.Out n) = record { access = refl; count = refl; arp = refl; ar = λ q other. refl }
constant_is k c (row.Lalk n) = record { access = refl; count = refl; arp = refl; ar = λ q other. refl }
constant_is k c (row.Adlk n) = record { access = refl; count = refl; arp = refl; ar = λ q other. refl }
constant_is k c (row.Sblk n) = record { access = refl; count = refl; arp = refl; ar = λ q other. refl }
constant_is k c row.Mpy = record { access = refl; count = refl; arp = refl; ar = λ q other. refl }
constant_is k c row.Lt = record { access = refl; count = refl; arp = refl; ar = λ q other. refl }
constant_is k c row.Zals = record { access = refl; count = refl; arp = refl; ar = λ q other. refl }
constant_is k c row.Lact = record { access = refl; count = refl; arp = refl; ar = λ q other. refl }
constant_is k c row.Subs = record { access = refl; count = refl; arp = refl; ar = λ q other. refl }
constant_is k c row.Adds = record { access = refl; count = refl; arp = refl; ar = λ q other. refl }
constant_is k c row.Xor = record { access = refl; count = refl; arp = refl; ar = λ q other. refl }
constant_is k c row.Or = record { access = refl; count = refl; arp = refl; ar = λ q other. refl }
constant_is k c row.And = record { access = refl; count = refl; arp = refl; ar = λ q other. refl }
constant_is k c row.Mpyk = record { access = refl; count = refl; arp = refl; ar = λ q other. refl }
constant_is k c row.Lack = record { access = refl; count = refl; arp = refl; ar = λ q other. refl }
constant_is k c row.Addk = record { access = refl; count = refl; arp = refl; ar = λ q other. refl }
constant_is k c row.Subk = record { access = refl; count = refl; arp = refl; ar = λ q other. refl }
constant_is k c row.Andk = record { access = refl; count = refl; arp = refl; ar = λ q other. refl }
constant_is k c row.Ork = record { access = refl; count = refl; arp = refl; ar = λ q other. refl }
constant_is k c row.Xork = record { access = refl; count = refl; arp = refl; ar = λ q other. refl }
constant_is k c row.Dint = record { access = refl; count = refl; arp = refl; ar = λ q other. refl }
constant_is k c row.Rovm = record { access = refl; count = refl; arp = refl; ar = λ q other. refl }
constant_is k c row.Rsxm = record { access = refl; count = refl; arp = refl; ar = λ q other. refl }
constant_is k c row.Ssxm = record { access = refl; count = refl; arp = refl; ar = λ q other. refl }
constant_is k c row.Spm = record { access = refl; count = refl; arp = refl; ar = λ q other. refl }
constant_is k c row.Pac = record { access = refl; count = refl; arp = refl; ar = λ q other. refl }
constant_is k c row.Apac = record { access = refl; count = refl; arp = refl; ar = λ q other. refl }
constant_is k c row.Spac = record { access = refl; count = refl; arp = refl; ar = λ q other. refl }
constant_is k c row.Sfl = record { access = refl; count = refl; arp = refl; ar = λ q other. refl }
constant_is k c row.Sfr = record { access = refl; count = refl; arp = refl; ar = λ q other. refl }
constant_is k c row.Neg = record { access = refl; count = refl; arp = refl; ar = λ q other. refl }
constant_is k c row.Cmpl = record { access = refl; count = refl; arp = refl; ar = λ q other. refl }
