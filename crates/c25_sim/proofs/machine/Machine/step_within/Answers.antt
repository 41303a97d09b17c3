use Rattle.std.proofs.Common.{◌∙◌, sym}
use Rattle.std.proofs.lemmas.Bool.{false≢true}
use Rattle.std.proofs.lemmas.List.{length-reverse}
use Rattle.c25_sim.specs.MachineView.{state_of}
use Rattle.c25_sim.proofs.Steps.{has_room}
use Rattle.c25_sim.proofs.Puts.{silent}
use Rattle.c25_sim.proofs.machine.Machine.step_within.Goals as goal
use Rattle.c25_sim.proofs.machine.Machine.step_within.Goals.{else-not-has_room-via-then-not-has_room+else-is_out, else-not-has_room-via-else-not-has_room}

pub perform-requires-clause-room : goal.perform-requires-clause-room
perform-requires-clause-room c = λ push full.
    has_room (state_of c.args.self.now) c.in-Some.instr (sym c.trap_at.ensures ∙ c.in_default-trap_at.is) push (length-reverse c.args.self.now.stack.items ∙ full)

pub returns-clause-kept : goal.returns-clause-kept
returns-clause-kept c = λ without. elim c.else-not-has_room.branch [
  | else-not-has_room-via-then-not-has_room+else-is_out w ↦ silent (state_of c.args.self.now) c.in-Some.length c.in-Some.instr _ (sym w.is_out.ensures ∙ w.if-is_out.false) c.perform.ensures.event
  | else-not-has_room-via-else-not-has_room w ↦ absurd (false≢true (sym without ∙ w.if-not-has_room.false))
]
