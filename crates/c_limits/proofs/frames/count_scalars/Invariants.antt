use Rattle.std.proofs.Common.{◌≡◌, ◌≤◌, ◌+◌, map, drop}
use Rattle.c_limits.specs.Frames.{scalars_by}
use Rattle.c_rules.specs.LocalView.{local_tree_of}
use Rattle.c_limits.proofs.frames.count_scalars.Given as goal

abbrev pub invariant-loop-n : goal.invariant-loop-n
invariant-loop-n l = record {
  counted : l.count + scalars_by (drop l.n l.pointed) (map local_tree_of (drop l.n l.locals)) ≡ scalars_by l.pointed (map local_tree_of l.locals);
  few : l.count ≤ l.n;
}
