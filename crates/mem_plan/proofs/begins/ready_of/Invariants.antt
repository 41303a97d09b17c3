use Rattle.mem_plan.specs.Search.{AreReady}
use Rattle.mem_plan.proofs.begins.ready_of.Given as goal

abbrev pub invariant-loop-number : goal.invariant-loop-number
invariant-loop-number l = AreReady l.number l.waiting l.order.items
