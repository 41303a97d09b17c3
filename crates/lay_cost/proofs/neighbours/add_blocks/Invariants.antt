-- The weights of the blocks so far.
use Rattle.std.proofs.Common.{take}
use Rattle.lay_cost.specs.Restricted.{in_bits}
use Rattle.lay_cost.proofs.Pairs.{AreSoFar}
use Rattle.lay_cost.proofs.neighbours.add_blocks.Given as goal

abbrev pub invariant-loop-index : goal.invariant-loop-index
invariant-loop-index l = AreSoFar (in_bits l.set) (take l.index l.seq.blocks) l.weights
