use Rattle.std.proofs.Common.{arith}
use Rattle.c_tree.specs.declared.program.Initial.TheVariants.{Word}
use Rattle.acc_select.proofs.CellLemmas.{cell_further}
use Rattle.acc_select.proofs.cells.cells.Goals as goal

pub loop-x-preserved : goal.loop-x-preserved
loop-x-preserved c = record {
  index = omega (arith, c.loop-x.invariant.index);
  code = cell_further c.args.number c.loop-x.index c.args.list.now c.loop-x.x-index (Word 0) c.loop-x.code.items c.set_cell.new.code.items c.loop-x-test.true c.loop-x.invariant.index c.loop-x.invariant.code c.in_ok-set_cell.ensures;
}
