use Rattle.c_types.proofs.UnitLemmas.{locals_ended}
use Rattle.c_types.proofs.units.parameter_locals.Goals as goal

pub returns : goal.returns
returns c = locals_ended c.args.list.now c.args.kinds.now c.loop-n.n c.loop-n-test.false c.loop-n.invariant
