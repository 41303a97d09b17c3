use Rattle.std.proofs.Common.{◌≡◌, ◌||◌, ℕ, List, map, drop}
use Rattle.c_tree.specs.c_syntax.SyntaxView.{item_of}
use Rattle.c_rules.specs.Units.{is_name_among}
use Rattle.c_units.specs.Views.{has_name}
use Rattle.c_units.proofs.statics.add_items.Given as goal

-- the names so far and those that are left
abbrev pub invariant-loop-item : goal.invariant-loop-item
invariant-loop-item l = (name : List ℕ) → (has_name l.names name || is_name_among name (map (λ item. item.name) (map item_of (drop l.item-index l.items)))) ≡ (has_name l.fn.names name || is_name_among name (map (λ item. item.name) (map item_of l.items)))
