use Rattle.std.proofs.Common.{◌≡◌, ◌++◌, ℕ, List, map, drop}
use Rattle.c_tree.specs.c_syntax.SyntaxView.{item_of}
use Rattle.c_units.specs.Objects.{objects_of}
use Rattle.c_units.specs.Views.{object_of, AreNames}
use Rattle.c_units.proofs.objects.push_items.Given as goal

-- the objects so far and those that are left
abbrev pub invariant-loop-item : goal.invariant-loop-item
invariant-loop-item l = (list : List (List ℕ)) → AreNames l.file.statics.now list
    → map object_of l.objects.items ++ objects_of l.file.number list l.is_extern (map item_of (drop l.item-index l.items))
    ≡ map object_of l.fn.objects.items ++ objects_of l.file.number list l.is_extern (map item_of l.items)
