use Rattle.c_rules.proofs.LawLemmas.{accepted}
use Rattle.c_types.proofs.laws.typed_is_accepted.Goals as goal

pub returns : goal.returns
returns c = accepted
