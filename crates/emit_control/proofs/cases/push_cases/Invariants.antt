use Rattle.std.proofs.Common.{length}
use Rattle.emit_control.specs.Emits.{CasesGoOn}
use Rattle.emit_control.proofs.cases.push_cases.Given as goal

abbrev pub invariant-loop-case : goal.invariant-loop-case
invariant-loop-case l = CasesGoOn l.initial.code l.fn.cases l.fn.first 0 l.code l.rest l.own l.before

abbrev pub decreases-loop-case : goal.decreases-loop-case
decreases-loop-case l = length l.rest
