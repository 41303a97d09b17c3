use Rattle.c_rules.proofs.LawLemmas.{one_program}
use Rattle.c_types.proofs.laws.one_typed_program.Goals as goal

pub returns : goal.returns
returns c = one_program
