use Rattle.c_syntax.proofs.DerivedValues.{unit_values}
use Rattle.c_types_proof.proofs.laws.sources_have_values.Goals as goal

pub returns : goal.returns
returns c = unit_values
