use Rattle.std.proofs.Common.{◌≡◌, ◌+◌, ◌<◌, ◌≤◌, length, map}
use Rattle.c_syntax.specs.Derives.{DerivesList}
use Rattle.c_syntax.specs.Measures.{greatest, expression_height, greatest_height}
use Rattle.c_syntax.specs.SyntaxView.{expression_of}
use Rattle.c_cursor.specs.Takes.{Takes}
use Rattle.c_declarations.specs.DeclarationFronts.{ValuesFront, MoreValues}
use Rattle.c_declarations.proofs.FrontLemmas.{LeadsOn}
use Rattle.c_declarations.proofs.declarations.values.Given as goal

abbrev pub invariant-loop-parser : goal.invariant-loop-parser
invariant-loop-parser l = record {
  tree : Takes (λ all. DerivesList all (map expression_of l.values.items)) l.fn.parser.cursor l.parser.cursor;
  height : l.highest ≡ greatest (map expression_height (map expression_of l.values.items));
  room : l.depth + l.highest ≤ greatest_height;
  fewer : length l.parser.cursor < length l.fn.parser.cursor;
  leads : LeadsOn (ValuesFront l.depth) (MoreValues l.depth) l.fn.parser.cursor l.parser.cursor;
}

abbrev pub decreases-loop-parser : goal.decreases-loop-parser
decreases-loop-parser l = length l.parser.cursor
