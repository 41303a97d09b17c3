use Rattle.std.proofs.Common.{◌≡◌, ◌++◌, map}
use Rattle.std.specs.Vec.Iter.{into_iter_items}
use Rattle.c_tree.specs.View.{object_of}
use Rattle.c_rules.specs.Programs.{object_tree}
use Rattle.c_scopes.specs.c_names.Statics.{static_tree_of}
use Rattle.c_types.proofs.program.objects.Given as goal

abbrev pub invariant-loop-object : goal.invariant-loop-object
invariant-loop-object l =
    map object_of l.objects.items ++ map object_tree (map static_tree_of (into_iter_items l.object-iterator))
    ≡ map object_tree (map static_tree_of l.fn.statics.items)
