use Rattle.std.proofs.Common.{◌≡◌, map, take}
use Rattle.c_tree.specs.View.{object_of}
use Rattle.c_means.specs.Runs.{statics_of}
use Rattle.c_state.specs.Stores.{store_of}
use Rattle.c_means.proofs.run.statics.Given as goal

abbrev pub invariant-loop-object : goal.invariant-loop-object
invariant-loop-object l = store_of l.store ≡ statics_of (map object_of (take l.object-index l.objects))
