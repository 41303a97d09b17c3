use Rattle.std.proofs.Common.{◌≡◌, ◌++◌, ◌+◌, ◌≤◌, length}
use Rattle.c_units.specs.Externs as externs
use Rattle.c_units.specs.Externs.{AtStart}
use Rattle.c_units.specs.Views.{position_of, depth_of}
use Rattle.c_units.proofs.externs.without_externs.Given as goal

-- what is kept so far and what is kept of the rest; and no more braces are open than tokens were read
abbrev pub invariant-loop-token : goal.invariant-loop-token
invariant-loop-token l = record {
  tokens : l.kept.tokens.items ++ externs.kept (position_of l.position) l.rest.items ≡ externs.without_externs l.fn.tokens.items;
  places : l.kept.externs.items ++ externs.extern_places (position_of l.position) l.rest.items ≡ externs.extern_places AtStart l.fn.tokens.items;
  depth : depth_of l.position + length l.rest.items ≤ length l.fn.tokens.items;
}

abbrev pub decreases-loop-token : goal.decreases-loop-token
decreases-loop-token l = length l.rest.items
