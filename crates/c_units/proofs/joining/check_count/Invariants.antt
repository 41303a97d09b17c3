use Rattle.std.proofs.Common.{◌≡◌, ◌+◌, map, drop}
use Rattle.c_units.specs.Joining.{token_count}
use Rattle.c_units.specs.Views.{tree_of}
use Rattle.c_units.proofs.joining.check_count.Given as goal

-- the tokens so far and those that are left
abbrev pub invariant-loop-named : goal.invariant-loop-named
invariant-loop-named l = l.count + token_count (map tree_of (drop l.named-index l.files)) ≡ token_count (map tree_of l.files)
