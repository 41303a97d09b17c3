use Rattle.cc_compile.proofs.LimitLemmas.{no_fault}
use Rattle.cc_compile.proofs.OneFault.{program_no_fault}
use Rattle.cc_compile.proofs.limit_laws.sources_within_limits_have_no_fault.Goals as goal

pub returns-clause-none : goal.returns-clause-none
returns-clause-none c = λ o bytes fault within. no_fault bytes within o fault (c.full_code_is_large.ensures.source o bytes)

-- whatever is chosen
pub returns-clause-typed : goal.returns-clause-typed
returns-clause-typed c = λ bytes program fault h. program_no_fault (record { registers = 1; step = 1; budget = 1 }) bytes program fault h
