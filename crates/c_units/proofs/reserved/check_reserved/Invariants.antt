use Rattle.std.proofs.Common.{◌≡◌, ◌+◌, map, drop}
use Rattle.c_units.specs.Joining.{reserved_fault}
use Rattle.c_units.specs.Views.{tree_of}
use Rattle.c_units.proofs.reserved.check_reserved.Given as goal

-- no name so far is reserved
abbrev pub invariant-loop-source : goal.invariant-loop-source
invariant-loop-source l = record {
  number : l.file ≡ l.source-index;
  none : reserved_fault (l.source-index + 1) (map tree_of (drop l.source-index l.files)) ≡ reserved_fault 1 (map tree_of l.files);
}
