use Rattle.cc_compile.proofs.OneFault.{one_fault, accepted_no_fault, untyped_fault, untyped_not_accepted}
use Rattle.cc_compile.proofs.cc_fault_laws.one_source_fault.Goals as goal

pub returns : goal.returns
returns c = record { one = one_fault; untyped = untyped_fault; apart = untyped_not_accepted; none = accepted_no_fault }
