use Rattle.std.proofs.Common.{◌≡◌, ◌+◌, ◌≤◌, length, map}
use Rattle.c_syntax.specs.Derives.{DerivesUnit}
use Rattle.c_syntax.specs.Measures.{greatest, external_height, greatest_height}
use Rattle.c_syntax.specs.SyntaxView.{external_of}
use Rattle.c_cursor.specs.Takes.{Takes}
use Rattle.c_parser.specs.UnitFronts.{UnitFront, MoreUnits}
use Rattle.c_declarations.proofs.FrontLemmas.{LeadsOn}
use Rattle.c_parser.proofs.units.unit.Given as goal

abbrev pub invariant-loop-parser : goal.invariant-loop-parser
invariant-loop-parser l = record {
  tree : Takes (λ all. DerivesUnit all (map external_of l.externals.items)) l.tokens l.parser.cursor;
  height : l.highest ≡ greatest (map external_height (map external_of l.externals.items));
  room : 1 + l.highest ≤ greatest_height;
  leads : LeadsOn UnitFront MoreUnits l.tokens l.parser.cursor;
}

abbrev pub decreases-loop-parser : goal.decreases-loop-parser
decreases-loop-parser l = length l.parser.cursor
