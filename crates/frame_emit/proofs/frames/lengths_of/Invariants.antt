use Rattle.std.proofs.Common.{◌≡◌, ◌++◌, map, drop}
use Rattle.c_tree.specs.View.{object_of}
use Rattle.c_tree.specs.TypedTree.{ObjectTree}
use Rattle.frame_emit.proofs.frames.lengths_of.Given as goal

-- with those that are left they are all
abbrev pub invariant-loop-object : goal.invariant-loop-object
invariant-loop-object l =
    l.all.items ++ map (λ (o : ObjectTree). o.length) (map object_of (drop l.object-index l.objects)) ≡ map (λ (o : ObjectTree). o.length) (map object_of l.objects)
