use Rattle.c_tree.specs.c_syntax.SyntaxView.{unit_of, external_of}
use Rattle.c_units.specs.Statics.{statics_of}
use Rattle.c_units.specs.Objects.{objects_in}
use Rattle.c_units.proofs.TableLemmas.{list_turn}
use Rattle.c_units.proofs.objects.push_file.Goals as goal

pub loop-external-preserved : goal.loop-external-preserved
loop-external-preserved c =
    let statics = statics_of (unit_of c.args.named.now.file.now.unit) in
    let places = c.args.named.now.file.now.externs.items in
    let list = c.externals-external-items.ensures.externals in
    let is = rw list at c.external-item.is in
    let below = rw list at c.loop-external-test.true in
    list_turn external_of (objects_in c.args.number statics places) _ _ _ c.args.named.now.file.now.unit c.loop-external.external-index c.external-item.result is below c.loop-external.invariant
    (c.in_ok-push_external.ensures statics places c.requires.table (rw c.deref.ensures.value at c.in_ok-places_of.ensures))
