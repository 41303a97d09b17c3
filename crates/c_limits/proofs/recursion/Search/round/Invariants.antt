use Rattle.std.proofs.Common.{map, vec_items}
use Rattle.c_limits.specs.Trails.{HasSearched}
use Rattle.c_limits.proofs.recursion.Search.round.Given as goal

abbrev pub invariant-loop-place : goal.invariant-loop-place
invariant-loop-place l = HasSearched (map vec_items l.callees) l.first l.self l.place
