-- Function by function, and call by call.
use Rattle.acc_select_proof.proofs.Selection.{word_programs_keep}
use Rattle.acc_select_proof.proofs.select_laws.selection_keeps_runs.Goals as goal

pub returns : goal.returns
returns c = record { keeps = λ q p input n is words. word_programs_keep q p n is input words }
