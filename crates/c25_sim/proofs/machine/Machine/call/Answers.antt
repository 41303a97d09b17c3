use Rattle.std.proofs.Common.{arith}
use Rattle.c25_sim.specs.MachineView.{state_of}
use Rattle.c25_sim.proofs.Moves.{called}
use Rattle.c25_sim.proofs.machine.Machine.call.Goals as goal

pub returns : goal.returns
returns c =
    called (state_of c.args.self.now) (state_of c.push.new.self) c.args.length c.args.to _ c.args.operand.now _ (omega (arith, c.from.ensures)) c.push.ensures c.jump.ensures
