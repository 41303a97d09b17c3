-- There is a place for each function so far, and no walk is kept.
use Rattle.std.proofs.Common.{◌≡◌, None, replicate}
use Rattle.cc_check.proofs.walks.Walks.new.Given as goal

abbrev pub invariant-loop : goal.invariant-loop
invariant-loop l = l.kept.items ≡ replicate l.counter None
