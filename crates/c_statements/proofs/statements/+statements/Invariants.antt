use Rattle.std.proofs.Common.{◌≡◌, ◌+◌, ◌*◌, ◌≤◌, max, length, map}
use Rattle.c_syntax.specs.Derives.{DerivesDeclarations, DerivesStatements, DerivesChoices}
use Rattle.c_syntax.specs.Measures.{greatest, declaration_height, statements_height, choices_height, greatest_height}
use Rattle.c_syntax.specs.SyntaxView.{declaration_of, body_of}
use Rattle.c_cursor.specs.Takes.{Takes, Both}
use Rattle.c_statements.specs.StatementRows.{parts_of}
use Rattle.c_statements.specs.StatementFronts.{PartsFront, StatementsFront, BodyFront}
use Rattle.c_declarations.proofs.FrontLemmas.{LeadsOn}
use Rattle.c_statements.proofs.statements.+statements.Given as goal

abbrev pub decreases-statement : goal.decreases-statement
decreases-statement l = 4 * length l.parser.now.cursor + 1

abbrev pub decreases-inner : goal.decreases-inner
decreases-inner l = 4 * length l.parser.now.cursor + 2

abbrev pub decreases-inner_block : goal.decreases-inner_block
decreases-inner_block l = 4 * length l.parser.now.cursor + 0

abbrev pub decreases-do_loop : goal.decreases-do_loop
decreases-do_loop l = 4 * length l.parser.now.cursor + 0

abbrev pub decreases-choice : goal.decreases-choice
decreases-choice l = 4 * length l.parser.now.cursor + 0

abbrev pub decreases-while_loop : goal.decreases-while_loop
decreases-while_loop l = 4 * length l.parser.now.cursor + 0

abbrev pub decreases-for_loop : goal.decreases-for_loop
decreases-for_loop l = 4 * length l.parser.now.cursor + 0

abbrev pub decreases-switch : goal.decreases-switch
decreases-switch l = 4 * length l.parser.now.cursor + 0

abbrev pub decreases-switch_part : goal.decreases-switch_part
decreases-switch_part l = 4 * length l.parser.now.cursor + 2

abbrev pub decreases-switch_parts : goal.decreases-switch_parts
decreases-switch_parts l = 4 * length l.parser.now.cursor + 3

abbrev pub decreases-body : goal.decreases-body
decreases-body l = 4 * length l.parser.now.cursor + 2

abbrev pub invariant-body-loop-parser : goal.invariant-body-loop-parser
invariant-body-loop-parser l = record {
  tree : Takes (Both (λ a. DerivesDeclarations a (map declaration_of l.declarations.tree.items)) (λ a. DerivesStatements a (body_of l.statements.items))) l.fn.parser.cursor l.parser.cursor;
  height : l.highest ≡ max (greatest (map declaration_height (map declaration_of l.declarations.tree.items))) (statements_height (body_of l.statements.items));
  room : l.depth + 1 + l.highest ≤ greatest_height;
  no_more : length l.parser.cursor ≤ length l.fn.parser.cursor;
  leads : LeadsOn (BodyFront l.depth) (StatementsFront (l.depth + 1)) l.fn.parser.cursor l.parser.cursor;
}

abbrev pub decreases-body-loop-parser : goal.decreases-body-loop-parser
decreases-body-loop-parser l = length l.parser.cursor

abbrev pub invariant-switch_parts-loop-parser : goal.invariant-switch_parts-loop-parser
invariant-switch_parts-loop-parser l = record {
  tree : Takes (λ a. DerivesChoices a (parts_of l.parts.items)) l.fn.parser.cursor l.parser.cursor;
  height : l.highest ≡ choices_height (parts_of l.parts.items);
  room : l.depth + 1 + l.highest ≤ greatest_height;
  no_more : length l.parser.cursor ≤ length l.fn.parser.cursor;
  leads : LeadsOn (PartsFront l.depth) (PartsFront l.depth) l.fn.parser.cursor l.parser.cursor;
}

abbrev pub decreases-switch_parts-loop-parser : goal.decreases-switch_parts-loop-parser
decreases-switch_parts-loop-parser l = length l.parser.cursor
