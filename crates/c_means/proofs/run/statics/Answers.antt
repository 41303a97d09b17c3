use Rattle.c_state.specs.Stores.{store_of}
use Rattle.c_means.proofs.MainLemmas.{next_static}
use Rattle.c_means.proofs.run.statics.Goals as goal

pub loop-object-preserved : goal.loop-object-preserved
loop-object-preserved c =
    next_static c.args.objects.now c.loop-object.object-index c.object-item.result c.in_ok-cells.cells (store_of c.loop-object.store) (store_of c.make.new.self)
    c.loop-object-test.true c.object-item.is c.loop-object.invariant c.in_ok-cells.ensures c.in_ok-make.ensures.made
