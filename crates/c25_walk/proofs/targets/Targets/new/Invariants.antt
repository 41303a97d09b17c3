use Rattle.std.proofs.Common.{◌≡◌, ℕ, ◌+◌, ◌<◌, false, drop, get_or, vec_len}
use Rattle.std.specs.Prelude.{◌||◌, ◌==◌}
use Rattle.std.specs.List.{list_any}
use Rattle.c25_walk.specs.Marks.{targets_of}
use Rattle.c25_walk.proofs.targets.Targets.new.Given as goal

abbrev pub invariant-loop-placed : goal.invariant-loop-placed
invariant-loop-placed l = record {
  first : l.targets.first ≡ l.first;
  count : vec_len l.targets.marks ≡ l.count + 1;
  marked : (k : ℕ) → k < l.count + 1
      → (get_or l.targets.marks.items k false || list_any (λ to. to == l.first + k) (targets_of (drop l.placed-index l.code))) ≡ list_any (λ to. to == l.first + k) (targets_of l.code);
}
