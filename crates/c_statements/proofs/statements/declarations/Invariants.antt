use Rattle.std.proofs.Common.{◌≡◌, ◌+◌, ◌≤◌, length, map}
use Rattle.c_syntax.specs.Derives.{DerivesDeclarations}
use Rattle.c_syntax.specs.Measures.{greatest, declaration_height, greatest_height}
use Rattle.c_syntax.specs.SyntaxView.{declaration_of}
use Rattle.c_cursor.specs.Takes.{Takes}
use Rattle.c_statements.specs.StatementFronts.{DeclarationsFront}
use Rattle.c_declarations.proofs.FrontLemmas.{LeadsOn}
use Rattle.c_statements.proofs.statements.declarations.Given as goal

abbrev pub invariant-loop-parser : goal.invariant-loop-parser
invariant-loop-parser l = record {
  tree : Takes (λ all. DerivesDeclarations all (map declaration_of l.declarations.items)) l.fn.parser.cursor l.parser.cursor;
  height : l.highest ≡ greatest (map declaration_height (map declaration_of l.declarations.items));
  room : l.depth + l.highest ≤ greatest_height;
  no_more : length l.parser.cursor ≤ length l.fn.parser.cursor;
  leads : LeadsOn (DeclarationsFront l.depth) (DeclarationsFront l.depth) l.fn.parser.cursor l.parser.cursor;
}

abbrev pub decreases-loop-parser : goal.decreases-loop-parser
decreases-loop-parser l = length l.parser.cursor
