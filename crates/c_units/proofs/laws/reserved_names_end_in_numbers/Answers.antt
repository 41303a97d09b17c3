use Rattle.c_units.proofs.EndLemmas.{ends_so, ends_then}
use Rattle.c_units.proofs.laws.reserved_names_end_in_numbers.Goals as goal

pub returns : goal.returns
returns c = λ name. (ends_so name, ends_then name)
