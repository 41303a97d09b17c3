use Rattle.std.proofs.Common.{◌≡◌, ◌||◌, ℕ, List, drop}
use Rattle.c_tree.specs.c_syntax.SyntaxView.{unit_of}
use Rattle.c_rules.specs.Units.{is_name_among}
use Rattle.c_units.specs.Statics.{statics_of}
use Rattle.c_units.specs.Views.{has_name}
use Rattle.c_units.proofs.statics.statics_of.Given as goal

-- the names so far and those that are left
abbrev pub invariant-loop-external : goal.invariant-loop-external
invariant-loop-external l = (name : List ℕ) → (has_name l.names name || is_name_among name (statics_of (unit_of (drop l.external-index l.unit)))) ≡ is_name_among name (statics_of (unit_of l.unit))
