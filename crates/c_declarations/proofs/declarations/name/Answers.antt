use Rattle.c_cursor.proofs.Refusals.{refuses_all}
use Rattle.c_declarations.proofs.ParameterWays.{no_name_found}
use Rattle.c_cursor.proofs.TakesLemmas.{name_taken}
use Rattle.c_declarations.proofs.declarations.name.Goals as goal

pub returns-in_ok-copy_of-in-Ok-clause-tree : goal.returns-in_ok-copy_of-in-Ok-clause-tree
returns-in_ok-copy_of-in-Ok-clause-tree c = rw c.in_ok-copy_of-in-Ok.ensures (name_taken c.in-Ok.name.now _ _ c.in-Ok.ensures.taken c.in-Ok.ensures.left)

pub returns-in-Err-clause-refused : goal.returns-in-Err-clause-refused
returns-in-Err-clause-refused c = refuses_all c.in-Err.fault (no_name_found c.in-Err.ensures.refused)
