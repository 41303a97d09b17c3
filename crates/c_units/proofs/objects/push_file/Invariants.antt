use Rattle.std.proofs.Common.{◌≡◌, ◌++◌, map, drop, flat_map}
use Rattle.c_tree.specs.c_syntax.SyntaxView.{unit_of}
use Rattle.c_units.specs.Statics.{statics_of}
use Rattle.c_units.specs.Objects.{objects_in, file_objects}
use Rattle.c_units.specs.Views.{tree_of, object_of}
use Rattle.c_units.proofs.objects.push_file.Given as goal

-- the objects so far and those that are left
abbrev pub invariant-loop-external : goal.invariant-loop-external
invariant-loop-external l =
    map object_of l.objects.items ++ flat_map (objects_in l.number (statics_of (unit_of l.named.file.now.unit)) l.named.file.now.externs.items) (unit_of (drop l.external-index l.named.file.now.unit))
    ≡ map object_of l.fn.objects.items ++ file_objects l.number (tree_of l.named)
