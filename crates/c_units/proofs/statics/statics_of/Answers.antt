use Rattle.c_tree.specs.c_syntax.SyntaxView.{external_of}
use Rattle.c_units.specs.Statics.{statics_in}
use Rattle.c_units.proofs.TableLemmas.{names_turn}
use Rattle.c_units.proofs.statics.statics_of.Goals as goal

pub loop-external-preserved : goal.loop-external-preserved
loop-external-preserved c = λ name.
    let list = c.externals-external-items.ensures.externals in
    let is = rw list at c.external-item.is in
    let below = rw list at c.loop-external-test.true in
    names_turn external_of statics_in _ _ _ name c.args.unit.now c.loop-external.external-index c.external-item.result is below (c.loop-external.invariant name) (c.in_ok-add_statics.ensures name)
