-- A state without a repeat is one at its modes; the first two instructions of a program make it calm.
use Rattle.std.proofs.Common.{◌≡◌, ◌+◌, ◌<◌, false, [], ◌∷◌, None, ap, ◌∙◌, arith}
use Rattle.c25_isa.specs.declared.instruction.Instr.TheVariants.{Rovm, Spm}
use Rattle.c25_isa.specs.State.{State}
use Rattle.c25_isa.specs.Step.{Ran, repeats_badly, trap_where}
use Rattle.c25_isa.specs.declared.trap.TrapKind.TheVariants.{Repeat}
use Rattle.c25_isa.specs.CodeAt.{CodeAt}
use Rattle.c25_isa.specs.Leads.{Leads}
use Rattle.c25_isa.proofs.Leads.{leads_on, ran_leads, runs, onward_pc}
use Rattle.c25_code.specs.Work.{at_modes, calm, modes_of, work_of}

pub at_its_modes : (s : State) → s.repeats ≡ None → s ≡ at_modes (modes_of s) s.program s.pc (work_of s)
at_its_modes s none = ap (λ r. record s { repeats = r }) none

-- from any modes
pub calmed : (s : State) → s.repeats ≡ None → CodeAt s.program s.pc (Rovm ∷ Spm ∷ []) → s.pc + 2 < 65536 → Leads 2 s (calm s.program (s.pc + 1 + 1) (work_of s)) []
calmed s none at behind =
    let a : State = record s { ovm = false; pc = s.pc + 1 } in
    let first : Leads 1 s a [] = ran_leads s a (runs s Rovm none at.0 (ap (λ r. trap_where (repeats_badly r false) Repeat None) none) ∙ ap (λ n. Ran (record s { ovm = false; pc = n })) (onward_pc s.pc 1 (omega arith))) in
    let second : Leads 1 a (calm s.program (s.pc + 1 + 1) (work_of s)) [] = ran_leads a _ (runs a Spm none at.1.0 (ap (λ r. trap_where (repeats_badly r false) Repeat None) none) ∙ ap (λ n. Ran (record a { pm = 0; pc = n })) (onward_pc (s.pc + 1) 1 (omega arith)) ∙ ap (λ r. Ran (record a { pm = 0; pc = s.pc + 1 + 1; repeats = r })) none) in
    leads_on 1 1 _ _ _ _ _ first second
