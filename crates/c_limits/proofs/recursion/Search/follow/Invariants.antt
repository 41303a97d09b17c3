use Rattle.std.proofs.Common.{map, vec_items}
use Rattle.c_limits.proofs.SearchLemmas.{Following}
use Rattle.c_limits.proofs.recursion.Search.follow.Given as goal

abbrev pub invariant-loop-callee : goal.invariant-loop-callee
invariant-loop-callee l = Following (map vec_items l.callees) l.first l.place l.fn.self.steps.items l.callee-items l.callee-index l.self
