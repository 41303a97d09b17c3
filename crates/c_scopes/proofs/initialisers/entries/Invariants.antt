use Rattle.std.proofs.Common.{drop}
use Rattle.c_names.specs.Tables.{scope_of}
use Rattle.c_scopes.proofs.SoFar.{EntriesSoFar}
use Rattle.c_scopes.proofs.initialisers.entries.Given as goal

abbrev pub invariant-loop-e : goal.invariant-loop-e
invariant-loop-e l = EntriesSoFar (scope_of l.scopes) l.list (drop l.e-index l.list) l.entries.items
