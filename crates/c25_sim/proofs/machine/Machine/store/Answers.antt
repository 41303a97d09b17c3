use Rattle.c25_sim.specs.MachineView.{state_of}
use Rattle.c25_sim.proofs.Moves.{stored}
use Rattle.c25_sim.proofs.machine.Machine.store.Goals as goal

pub returns : goal.returns
returns c =
    stored (state_of c.args.self.now) (state_of c.write.new.self) (state_of c.follow.new.self) c.args.length c.args.operand.now c.address-address.result c.args.word _
    c.address-address.ensures c.write.ensures c.follow.ensures c.go.ensures
