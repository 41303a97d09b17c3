-- The lists of the signs so far.
use Rattle.std.proofs.Common.{◌≡◌, take}
use Rattle.lay_node.specs.Strings.{node_of}
use Rattle.lay_search.proofs.pieces.arrangement_of.Given as goal

abbrev pub invariant-loop-sign : goal.invariant-loop-sign
invariant-loop-sign l = record {
  closed : l.lists.items ≡ (node_of (take l.sign-index l.string)).closed;
  open_list : l.list.items ≡ (node_of (take l.sign-index l.string)).open_list;
}
