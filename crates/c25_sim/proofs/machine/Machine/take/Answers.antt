use Rattle.std.proofs.Common.{refl, arith}
use Rattle.c25_sim.specs.MachineView.{state_of}
use Rattle.c25_sim.proofs.Inputs.{taken}
use Rattle.c25_sim.proofs.machine.Machine.take.Goals as goal

pub returns : goal.returns
returns c = taken (state_of c.args.self.now) c.args.self.now.inputs.items c.args.port c.index_mut.result.now _ c.take.result refl (omega (arith, c.args.self.now.inputs_fit, c.args.self.now.inputs.ok.0)) c.index_mut.ensures.value c.take.ensures
