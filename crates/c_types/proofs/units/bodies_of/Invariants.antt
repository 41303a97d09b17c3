use Rattle.std.proofs.Common.{◌≡◌, [], drop}
use Rattle.c_syntax.specs.SyntaxView.{unit_of}
use Rattle.c_scopes.specs.Tables.{key_names}
use Rattle.c_rules.specs.Units.{bodies_behind}
use Rattle.c_types.proofs.units.bodies_of.Given as goal

-- what the names so far and the externals of the rest make together
abbrev pub invariant-loop-external : goal.invariant-loop-external
invariant-loop-external l = bodies_behind [] (unit_of l.externals) ≡ bodies_behind (key_names l.bodies.keys) (unit_of (drop l.external-index l.externals))
