use Rattle.c25_sim.specs.MachineView.{state_of}
use Rattle.c25_sim.proofs.Moves.{took}
use Rattle.c25_sim.proofs.machine.Machine.take_to.Goals as goal

pub returns-in-Some-clause-event : goal.returns-in-Some-clause-event
returns-in-Some-clause-event c =
    took (state_of c.args.self.now) (state_of c.take.new.self) c.args.length c.args.port c.args.operand.now c.in-Some.word _ c.in-Some.ensures c.store.ensures
