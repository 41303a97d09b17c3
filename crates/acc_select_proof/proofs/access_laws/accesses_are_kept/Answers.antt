-- Form by form, and function by function.
use Rattle.std.proofs.Common.{sym}
use Rattle.acc_select_proof.proofs.Lowering.{function_kept}
use Rattle.acc_select_proof.proofs.AccessStatements.{function_has}
use Rattle.acc_select_proof.proofs.AccessPrograms.{known_kept}
use Rattle.acc_select_proof.proofs.access_laws.accesses_are_kept.Goals as goal

pub returns-clause-lowered : goal.returns-clause-lowered
returns-clause-lowered c = λ f. sym (function_kept f)

pub returns-clause-selected : goal.returns-clause-selected
returns-clause-selected c = λ p f is. function_has p f is.body

pub returns-clause-sequences : goal.returns-clause-sequences
returns-clause-sequences c = known_kept
