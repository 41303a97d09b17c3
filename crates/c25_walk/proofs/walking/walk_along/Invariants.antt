use Rattle.std.proofs.Common.{◌≡◌, ◌≤◌, drop}
use Rattle.c25_walk.specs.Marks.{targets_of}
use Rattle.c25_walk.specs.Walking.{walking_of, started, behind_all, first_unknown}
use Rattle.c25_walk.proofs.walking.walk_along.Given as goal

abbrev pub invariant-loop-placed : goal.invariant-loop-placed
invariant-loop-placed l = record {
  walked : behind_all (targets_of l.code) (walking_of l.walker) (drop l.placed-index l.code) ≡ behind_all (targets_of l.code) started l.code;
  unknown : first_unknown (targets_of l.code) (walking_of l.walker) (drop l.placed-index l.code) ≡ first_unknown (targets_of l.code) started l.code;
  few : l.walker.count ≤ l.placed-index;
}
