use Rattle.c_rules.proofs.FaultLaws.{one_fault}
use Rattle.c_types.proofs.laws.one_fault.Goals as goal

pub returns : goal.returns
returns c = one_fault
