-- The tally behind the accesses so far that have places.
use Rattle.std.proofs.Common.{◌≡◌, ◌≤◌, take, filter, fold}
use Rattle.lay_cost.specs.Cost.{no_access, with_access}
use Rattle.lay_cost.specs.Memory.{placement_in, is_placed, IsSpareKept, tally_of}
use Rattle.lay_cost.proofs.counting.cost_at_step.Given as goal

abbrev pub invariant-loop-scalar : goal.invariant-loop-scalar
invariant-loop-scalar l = record {
  walked : tally_of l.last.offsets l.tally ≡ fold (with_access l.step (placement_in l.places.places)) no_access (filter (is_placed l.places.places) (take l.scalar-index l.accesses));
  spare : IsSpareKept l.last.offsets;
  within : l.tally.by_step ≤ l.tally.far;
  few : l.tally.far ≤ l.scalar-index;
}
