use Rattle.c25_sim.specs.MachineView.{state_of}
use Rattle.c25_sim.proofs.Steps.{both_behind}
use Rattle.c25_sim.proofs.machine.Machine.perform.Goals as goal

pub returns-in-Some-clause-state : goal.returns-in-Some-clause-state
returns-in-Some-clause-state c =
    both_behind c.effect-event.result (state_of c.args.self.now) (state_of c.effect-event.new.self) (state_of c.count_repeat.new.self) c.effect-event.ensures.state c.count_repeat.ensures.state
