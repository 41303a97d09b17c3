-- Where the open list of the signs so far begins.
use Rattle.std.proofs.Common.{◌≡◌, ◌≤◌, take, drop}
use Rattle.lay_node.specs.Strings.{node_of}
use Rattle.lay_node.proofs.open_list.open_begin.Given as goal

abbrev pub invariant-loop-sign : goal.invariant-loop-sign
invariant-loop-sign l = record {
  count : l.end ≡ l.sign-index;
  within : l.begin ≤ l.sign-index;
  open_list : drop l.begin (take l.sign-index l.string) ≡ (node_of (take l.sign-index l.string)).open_list;
}
