use Rattle.c_units.proofs.FreshLemmas.{static_names_fresh}
use Rattle.c_units.proofs.laws.static_names_are_fresh.Goals as goal

pub returns : goal.returns
returns c = static_names_fresh
