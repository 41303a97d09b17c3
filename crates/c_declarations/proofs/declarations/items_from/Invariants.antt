use Rattle.std.proofs.Common.{◌≡◌, ◌+◌, ◌≤◌, length, map}
use Rattle.c_syntax.specs.Derives.{DerivesItem, DerivesItems}
use Rattle.c_syntax.specs.Measures.{greatest, item_height, greatest_height}
use Rattle.c_syntax.specs.SyntaxView.{item_of}
use Rattle.c_cursor.specs.Takes.{Takes, Behind}
use Rattle.c_declarations.specs.DeclarationFronts.{MoreItems}
use Rattle.c_declarations.proofs.FrontLemmas.{LeadsOn}
use Rattle.c_declarations.proofs.declarations.items_from.Given as goal

abbrev pub invariant-loop-parser : goal.invariant-loop-parser
invariant-loop-parser l = record {
  tree : Takes (Behind (λ a. DerivesItem a (item_of l.fn.first.tree)) (λ all. DerivesItems all (map item_of l.items.items))) l.fn.parser.cursor l.parser.cursor;
  height : l.highest ≡ greatest (map item_height (map item_of l.items.items));
  high : 1 ≤ l.highest;
  room : l.depth + l.highest ≤ greatest_height;
  no_more : length l.parser.cursor ≤ length l.fn.parser.cursor;
  leads : LeadsOn (MoreItems l.depth) (MoreItems l.depth) l.fn.parser.cursor l.parser.cursor;
}

abbrev pub decreases-loop-parser : goal.decreases-loop-parser
decreases-loop-parser l = length l.parser.cursor
