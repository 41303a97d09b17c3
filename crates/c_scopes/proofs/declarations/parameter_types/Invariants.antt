use Rattle.std.proofs.Common.{◌≡◌, drop}
use Rattle.c_names.specs.Tables.{scope_of, around_of}
use Rattle.c_scopes.proofs.SoFar.{ParametersSoFar}
use Rattle.c_scopes.proofs.declarations.parameter_types.Given as goal

abbrev pub invariant-loop-parameter : goal.invariant-loop-parameter
invariant-loop-parameter l = record {
  typed : ParametersSoFar (scope_of l.initial.scopes) l.naming l.list (scope_of l.scopes) (drop l.parameter-index l.list) l.kinds.items;
  around : around_of l.scopes ≡ around_of l.initial.scopes;
}
