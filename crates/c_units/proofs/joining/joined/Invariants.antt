use Rattle.std.proofs.Common.{◌≡◌, ◌++◌, ◌+◌, map, drop}
use Rattle.c_units.specs.Joining.{kinds_text, joined_kinds}
use Rattle.c_units.specs.Statics.{static_name}
use Rattle.c_units.specs.Views.{tree_of}
use Rattle.c_units.proofs.joining.joined.Given as goal

-- the text so far and that of the files that are left
abbrev pub invariant-loop-named : goal.invariant-loop-named
invariant-loop-named l = record {
  number : l.number ≡ l.named-index;
  text : l.text.items ++ kinds_text (joined_kinds static_name (l.named-index + 1) (map tree_of (drop l.named-index l.files))) ≡ kinds_text (joined_kinds static_name 1 (map tree_of l.files));
}
