use Rattle.std.proofs.Common.{◌≡◌, ◌+◌, ◌<◌, ◌≤◌, length, map}
use Rattle.c_syntax.specs.Derives.{DerivesParameterList}
use Rattle.c_syntax.specs.Measures.{greatest, parameter_height, greatest_height}
use Rattle.c_syntax.specs.SyntaxView.{parameter_of}
use Rattle.c_cursor.specs.Takes.{Takes}
use Rattle.c_declarations.specs.DeclarationFronts.{ParameterListFront, MoreParameters}
use Rattle.c_declarations.proofs.FrontLemmas.{LeadsOn}
use Rattle.c_declarations.proofs.declarations.param_list.Given as goal

abbrev pub invariant-loop-parser : goal.invariant-loop-parser
invariant-loop-parser l = record {
  tree : Takes (λ all. DerivesParameterList all (map parameter_of l.list.items)) l.fn.parser.cursor l.parser.cursor;
  height : l.highest ≡ greatest (map parameter_height (map parameter_of l.list.items));
  room : l.depth + l.highest ≤ greatest_height;
  fewer : length l.parser.cursor < length l.fn.parser.cursor;
  leads : LeadsOn (ParameterListFront l.depth) (MoreParameters l.depth) l.fn.parser.cursor l.parser.cursor;
}

abbrev pub decreases-loop-parser : goal.decreases-loop-parser
decreases-loop-parser l = length l.parser.cursor
