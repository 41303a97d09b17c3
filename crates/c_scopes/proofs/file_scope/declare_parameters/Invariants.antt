use Rattle.std.proofs.Common.{◌≡◌, map, drop}
use Rattle.c_syntax.specs.SyntaxView.{parameter_of}
use Rattle.c_names.specs.Tables.{around_of, scope_of}
use Rattle.c_rules.specs.Units.{with_parameters}
use Rattle.c_scopes.proofs.file_scope.declare_parameters.Given as goal

abbrev pub invariant-loop-n : goal.invariant-loop-n
invariant-loop-n l = record {
  declared : with_parameters (scope_of l.initial.scopes) 0 (map parameter_of l.list) l.kinds ≡ with_parameters (scope_of l.scopes) l.n (map parameter_of (drop l.n l.list)) (drop l.n l.kinds);
  around : around_of l.scopes ≡ around_of l.initial.scopes;
}
