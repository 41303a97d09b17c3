-- Instructions that access nothing through a register over scalars and aren't counted: whatever else a function's code is made of.
use Rattle.std.proofs.Common.{◌≡◌, ℕ, Option, Some, None, refl, ap}
use Rattle.std.specs.Prelude.{if◌then◌else◌}
use Rattle.c25_isa.specs.declared.operand.Change.TheVariants.{Stay, Up}
use Rattle.c25_isa.specs.declared.operand.Operand.TheVariants.{Direct, Indirect as Through}
use Rattle.c25_isa.specs.declared.instruction.JumpOp.{JumpOp}
use Rattle.c25_isa.specs.declared.instruction.Instr.{Instr}
use Rattle.c25_isa.specs.declared.instruction.Instr.TheVariants as instr
use Rattle.c25_isa.specs.Walk.{Placed, Known, access, access_by, listed, unknown_at}
use Rattle.c25_isa.specs.AddressCount.{is_address_instruction}
use Rattle.c25_code.specs.Items.{no_change}
use Rattle.image_proof.proofs.ItemBlocks.{placed_at}

-- such an instruction gives nothing, whatever is known
pub record IsQuiet (gives : Known → Placed → Option ℕ) (i : Instr) : Type 0 where
  pub by : (k : Known) (at : ℕ) → gives k (placed_at at i) ≡ None

pub record AreQuiet (gives : Known → Placed → Option ℕ) : Type 0 where
  pub page : (c : ℕ) → IsQuiet gives (instr.Ldpk c)
  pub taken : (offset : ℕ) → IsQuiet gives (instr.Popd (Direct offset))
  pub put : (offset : ℕ) → IsQuiet gives (instr.Pshd (Direct offset))
  pub return : IsQuiet gives instr.Ret
  pub less : (c : ℕ) → IsQuiet gives (instr.Subk c)
  pub less_long : (shift c : ℕ) → IsQuiet gives (instr.Sblk shift c)
  pub more : (c : ℕ) → IsQuiet gives (instr.Addk c)
  pub more_long : (shift c : ℕ) → IsQuiet gives (instr.Adlk shift c)
  pub load : (c : ℕ) → IsQuiet gives (instr.Lack c)
  pub load_long : (shift c : ℕ) → IsQuiet gives (instr.Lalk shift c)
  pub pointer : (a : ℕ) → IsQuiet gives (instr.Lrlk 1 a)
  pub current : (register : ℕ) → IsQuiet gives (instr.Mar (record { change = Stay; next = Some register }))
  pub jump : (op : JumpOp) (to : ℕ) → IsQuiet gives (instr.Branch op to no_change)
  pub call : (to : ℕ) → IsQuiet gives (instr.Call to no_change)
  -- a store through AR1
  pub store : (k : Known) (at : ℕ) → k.arp ≡ Some 1 → gives k (placed_at at (instr.Sach 0 (Through (record { change = Up; next = None })))) ≡ None

quiet : (gives : Known → Placed → Option ℕ) (i : Instr) → ((k : Known) (at : ℕ) → gives k (placed_at at i) ≡ None) → IsQuiet gives i
quiet gives i f = record { by = f }

abbrev pub listed_given : Known → Placed → Option ℕ
listed_given k p = listed (access k p.instr)

abbrev pub unknown_given : Known → Placed → Option ℕ
unknown_given k p = unknown_at p.at (access k p.instr)

abbrev pub counted_given : Known → Placed → Option ℕ
counted_given k p = if is_address_instruction k p.instr then Some p.at else None

pub listed_quiet : AreQuiet listed_given
listed_quiet = record {
  page = λ c. quiet listed_given _ (λ k at. refl);
  taken = λ offset. quiet listed_given _ (λ k at. refl);
  put = λ offset. quiet listed_given _ (λ k at. refl);
  return = quiet listed_given _ (λ k at. refl);
  less = λ c. quiet listed_given _ (λ k at. refl);
  less_long = λ shift c. quiet listed_given _ (λ k at. refl);
  more = λ c. quiet listed_given _ (λ k at. refl);
  more_long = λ shift c. quiet listed_given _ (λ k at. refl);
  load = λ c. quiet listed_given _ (λ k at. refl);
  load_long = λ shift c. quiet listed_given _ (λ k at. refl);
  pointer = λ a. quiet listed_given _ (λ k at. refl);
  current = λ register. quiet listed_given _ (λ k at. refl);
  jump = λ op to. quiet listed_given _ (λ k at. refl);
  call = λ to. quiet listed_given _ (λ k at. refl);
  store = λ k at e. ap (λ arp. listed (access_by k arp)) e;
}

pub unknown_quiet : AreQuiet unknown_given
unknown_quiet = record {
  page = λ c. quiet unknown_given _ (λ k at. refl);
  taken = λ offset. quiet unknown_given _ (λ k at. refl);
  put = λ offset. quiet unknown_given _ (λ k at. refl);
  return = quiet unknown_given _ (λ k at. refl);
  less = λ c. quiet unknown_given _ (λ k at. refl);
  less_long = λ shift c. quiet unknown_given _ (λ k at. refl);
  more = λ c. quiet unknown_given _ (λ k at. refl);
  more_long = λ shift c. quiet unknown_given _ (λ k at. refl);
  load = λ c. quiet unknown_given _ (λ k at. refl);
  load_long = λ shift c. quiet unknown_given _ (λ k at. refl);
  pointer = λ a. quiet unknown_given _ (λ k at. refl);
  current = λ register. quiet unknown_given _ (λ k at. refl);
  jump = λ op to. quiet unknown_given _ (λ k at. refl);
  call = λ to. quiet unknown_given _ (λ k at. refl);
  store = λ k at e. ap (λ arp. unknown_at at (access_by k arp)) e;
}

pub counted_quiet : AreQuiet counted_given
counted_quiet = record {
  page = λ c. quiet counted_given _ (λ k at. refl);
  taken = λ offset. quiet counted_given _ (λ k at. refl);
  put = λ offset. quiet counted_given _ (λ k at. refl);
  return = quiet counted_given _ (λ k at. refl);
  less = λ c. quiet counted_given _ (λ k at. refl);
  less_long = λ shift c. quiet counted_given _ (λ k at. refl);
  more = λ c. quiet counted_given _ (λ k at. refl);
  more_long = λ shift c. quiet counted_given _ (λ k at. refl);
  load = λ c. quiet counted_given _ (λ k at. refl);
  load_long = λ shift c. quiet counted_given _ (λ k at. refl);
  pointer = λ a. quiet counted_given _ (λ k at. refl);
  current = λ register. quiet counted_given _ (λ k at. refl);
  jump = λ op to. quiet counted_given _ (λ k at. refl);
  call = λ to. quiet counted_given _ (λ k at. refl);
  store = λ k at e. refl;
}
