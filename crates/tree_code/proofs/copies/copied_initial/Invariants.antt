use Rattle.std.proofs.Common.{◌≡◌, take}
use Rattle.std.specs.List.{AllByRecursion}
use Rattle.c_tree.specs.TypedOfWords.{StartsWithWord}
use Rattle.tree_code.proofs.copies.copied_initial.Given as goal

abbrev pub invariant-loop-x : goal.invariant-loop-x
invariant-loop-x l = record {
  copy : l.copy.items ≡ take l.x-index l.list;
  words : AllByRecursion StartsWithWord (take l.x-index l.list);
}
