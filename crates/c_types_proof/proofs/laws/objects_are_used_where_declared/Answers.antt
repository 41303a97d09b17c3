use Rattle.c_types_proof.proofs.Within.{all_used}
use Rattle.c_types_proof.proofs.laws.objects_are_used_where_declared.Goals as goal

pub returns : goal.returns
returns c = all_used
