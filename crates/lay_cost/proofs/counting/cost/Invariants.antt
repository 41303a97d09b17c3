-- The lists so far have their places.
use Rattle.std.proofs.Common.{◌≡◌, take, fold}
use Rattle.lay_cost.specs.Memory.{with_list, no_places}
use Rattle.lay_cost.proofs.counting.cost.Given as goal

abbrev pub invariant-loop-list : goal.invariant-loop-list
invariant-loop-list l = record {
  so_far : l.places ≡ fold with_list no_places (take l.list-index l.arr);
  register : l.places.register ≡ l.list-index;
  length : l.places.length ≡ 0;
}
