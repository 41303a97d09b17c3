use Rattle.c_rules.proofs.Formed.FormedSource.{well_formed_typed}
use Rattle.c_types.proofs.laws.typed_is_well_formed.Goals as goal

pub returns : goal.returns
returns c = well_formed_typed
