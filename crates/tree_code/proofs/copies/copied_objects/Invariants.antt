use Rattle.std.proofs.Common.{◌≡◌, map, take}
use Rattle.c_tree.specs.View.{object_of}
use Rattle.c_tree.specs.TypedOfWords.{StartsWithWords}
use Rattle.tree_code.proofs.copies.copied_objects.Given as goal

abbrev pub invariant-loop-o : goal.invariant-loop-o
invariant-loop-o l = record {
  tree : map object_of l.copies.items ≡ map object_of (take l.o-index l.list);
  words : StartsWithWords (map object_of (take l.o-index l.list));
}
