use Rattle.std.proofs.Common.{◌≡◌, drop, map}
use Rattle.c_syntax.specs.SyntaxView.{expression_of}
use Rattle.c_rules.specs.Statements.{all_typed}
use Rattle.c_names.specs.Tables.{scope_of}
use Rattle.c_scopes.proofs.initialisers.all_typed.Given as goal

abbrev pub invariant-loop-e : goal.invariant-loop-e
invariant-loop-e l = all_typed (scope_of l.scopes) (map expression_of l.list) ≡ all_typed (scope_of l.scopes) (map expression_of (drop l.e-index l.list))
