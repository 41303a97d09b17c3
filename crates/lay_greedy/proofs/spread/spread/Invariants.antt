-- The scalars so far are spread.
use Rattle.std.proofs.Common.{◌≡◌, [], replicate, fold}
use Rattle.std.specs.List.{range_with_len}
use Rattle.lay_tree.specs.Greedy.{with_scalar_placed}
use Rattle.lay_greedy.proofs.spread.spread.Given as goal

abbrev pub invariant-loop-scalar : goal.invariant-loop-scalar
invariant-loop-scalar l = l.lists.items ≡ fold (with_scalar_placed l.seq) (replicate l.registers []) (range_with_len 0 l.scalar)
