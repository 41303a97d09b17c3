use Rattle.acc_select.proofs.CellLemmas.{nothing_there}
use Rattle.acc_select.proofs.cells.fill.Goals as goal

pub returns-in-None : goal.returns-in-None
returns-in-None c = nothing_there c.args.locals.now c.args.number c.args.code.now.items c.in-None.ensures.lookup.3
