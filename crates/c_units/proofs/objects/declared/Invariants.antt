use Rattle.std.proofs.Common.{◌≡◌, ◌++◌, ◌+◌, map, drop}
use Rattle.c_units.specs.Objects.{all_objects}
use Rattle.c_units.specs.Views.{tree_of, object_of}
use Rattle.c_units.proofs.objects.declared.Given as goal

-- the objects so far and those that are left
abbrev pub invariant-loop-file : goal.invariant-loop-file
invariant-loop-file l = record {
  number : l.number ≡ l.file-index;
  objects : map object_of l.objects.items ++ all_objects (l.file-index + 1) (map tree_of (drop l.file-index l.files)) ≡ all_objects 1 (map tree_of l.files);
}
