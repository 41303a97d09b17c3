use Rattle.std.proofs.Common.{◌≡◌, ◌≤◌, map, drop}
use Rattle.c_limits.specs.Frames.{still, scalars_with, numbered_by, scalars_by}
use Rattle.c_rules.specs.LocalView.{local_tree_of}
use Rattle.c_limits.proofs.frames.references.Given as goal

abbrev pub invariant-loop-n : goal.invariant-loop-n
invariant-loop-n l = record {
  numbered : still l.numbering (drop l.n l.pointed) (map local_tree_of (drop l.n l.locals)) ≡ numbered_by l.pointed 0 0 (map local_tree_of l.locals);
  scalars : scalars_with l.numbering (drop l.n l.pointed) (map local_tree_of (drop l.n l.locals)) ≡ scalars_by l.pointed (map local_tree_of l.locals);
  objects : l.numbering.objects ≤ l.n;
}
