use Rattle.c_types_proof.proofs.Placing.{all_are_placed}
use Rattle.c_types_proof.proofs.laws.typed_programs_are_placed.Goals as goal

pub returns : goal.returns
returns c = all_are_placed
