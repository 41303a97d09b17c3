use Rattle.std.proofs.Common.{◌≡◌, map, drop}
use Rattle.std.specs.Vec.Iter.{into_iter_items}
use Rattle.c_rules.specs.Programs.{scalars_in, objects_in}
use Rattle.c_limits.specs.Storage.{with_scalars, with_objects}
use Rattle.c_rules.specs.LocalView.{local_tree_of}
use Rattle.c_limits.proofs.functions.split.Given as goal

abbrev pub invariant-loop-reference : goal.invariant-loop-reference
invariant-loop-reference l = record {
  scalars : with_scalars l.storage (drop l.reference-index l.references) (map local_tree_of (into_iter_items l.rest))
      ≡ scalars_in l.references (map local_tree_of l.fn.locals.items);
  objects : with_objects l.storage (drop l.reference-index l.references) (map local_tree_of (into_iter_items l.rest))
      ≡ objects_in l.references (map local_tree_of l.fn.locals.items);
}
