use Rattle.std.proofs.Common.{◌≡◌, ◌||◌, ℕ, List, map, drop}
use Rattle.c_rules.specs.Units.{is_name_among}
use Rattle.c_units.specs.Objects.{defined_names}
use Rattle.c_units.specs.Views.{object_of, has_name}
use Rattle.c_units.proofs.objects.defined.Given as goal

-- the names so far and those that are left
abbrev pub invariant-loop-object : goal.invariant-loop-object
invariant-loop-object l = (name : List ℕ) → (has_name l.names name || is_name_among name (defined_names (map object_of (drop l.object-index l.objects)))) ≡ is_name_among name (defined_names (map object_of l.objects))
