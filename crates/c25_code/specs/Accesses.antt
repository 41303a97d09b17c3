-- The states on the way from one state to another, and where the steps there access data memory.
use Rattle.std.specs.Prelude.{◌≡◌, ℕ, zero, suc, ◌<◌, Bool, true, List, [], ◌∷◌, Option, Some, None, option_map}
use Rattle.word_base.specs.Ports.{Outputs}
use Rattle.c25_isa.specs.declared.operand.Operand.{Operand}
use Rattle.c25_isa.specs.declared.operand.Operand.TheVariants.{Direct, Indirect as Through}
use Rattle.c25_isa.specs.declared.instruction.Instr.{Instr}
use Rattle.c25_isa.specs.State.{State}
use Rattle.c25_isa.specs.Step.{data_operand}
use Rattle.c25_isa.specs.Direct.{is_scratch, is_store}
use Rattle.c25_isa.specs.StretchRuns.{DataAccess, accessed}
use Rattle.c25_isa.specs.Leads.{Leads, state_behind}
use Rattle.c25_code.specs.Work.{Work}
use Rattle.c25_code.specs.Straight.{operand_address, behind_instr}

-- the machine leads from one state to another, and each state on the way, before the last one, is as it has to be
pub record LeadsWithin (fine : State → Type 0) (n : ℕ) (s t : State) (put : Outputs) : Type 0 where
  pub leads : Leads n s t put
  pub within : (m : ℕ) (u : State) → m < n → state_behind m s ≡ Some u → fine u

-- an access of data memory, if there is one, is one that may be
abbrev pub Allows : (DataAccess → Bool) → Option DataAccess → Type 0
Allows may None = Unit {0}
Allows may (Some x) = may x ≡ true

-- the next step of a state accesses data memory only as it may
abbrev pub Accesses : (DataAccess → Bool) → State → Type 0
Accesses may s = Allows may (accessed s)

-- the register that an operand goes through
abbrev pub operand_register : Work → Operand → Option ℕ
operand_register w (Direct offset) = None
operand_register w (Through i) = Some w.arp

-- an instruction accesses data memory only as it may
abbrev pub InstrMay : (DataAccess → Bool) → Instr → Work → Type 0
InstrMay may i w = Allows may (option_map (λ o. record { address = operand_address w o; through = operand_register w o; stores = is_store i }) (data_operand i))

-- so does each instruction of straight code, and one that is repeated so many times
abbrev pub CodeMay : (DataAccess → Bool) → List Instr → Work → Type 0
CodeMay may [] w = Unit {0}
CodeMay may (i ∷ is) w = InstrMay may i w × CodeMay may is (behind_instr i w)

abbrev pub RepeatsMay : (DataAccess → Bool) → ℕ → Instr → Work → Type 0
RepeatsMay may zero i w = Unit {0}
RepeatsMay may (suc n) i w = InstrMay may i w × RepeatsMay may n i (behind_instr i w)

-- accesses of scratch words alone
abbrev pub at_scratch : DataAccess → Bool
at_scratch x = is_scratch x.address
