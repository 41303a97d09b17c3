-- The blocks before this one are as long.
use Rattle.std.proofs.Common.{◌≡◌, length, map, take}
use Rattle.lay_profile.proofs.shapes.has_lengths.Given as goal

abbrev pub invariant-loop-index : goal.invariant-loop-index
invariant-loop-index l = map length (take l.index l.walked) ≡ map (λ b. length b.accesses) (take l.index l.accesses.blocks)
