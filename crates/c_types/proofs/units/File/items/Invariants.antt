use Rattle.std.proofs.Common.{◌≡◌, map, drop}
use Rattle.c_syntax.specs.SyntaxView.{item_of}
use Rattle.c_rules.specs.Units.{file_items}
use Rattle.c_types.specs.View.{file_of}
use Rattle.c_types.proofs.units.File.items.Given as goal

abbrev pub invariant-loop-item : goal.invariant-loop-item
invariant-loop-item l = file_items (file_of l.initial.self) l.base (map item_of l.items) ≡ file_items (file_of l.self) l.base (map item_of (drop l.item-index l.items))
