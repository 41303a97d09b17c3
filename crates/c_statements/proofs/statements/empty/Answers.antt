use Rattle.std.proofs.Common.{rules, arith}
use Rattle.c_syntax.specs.declared.token.Punct.TheVariants as mark
use Rattle.c_syntax.specs.SyntaxTree.{Empty}
use Rattle.c_syntax.specs.Derives.{Closed}
use Rattle.c_cursor.proofs.TakesLemmas.{mark_taken, one_fewer}
use Rattle.c_statements.proofs.StatementRows.{stated, empty_row}
use Rattle.c_statements.proofs.statements.empty.Goals as goal

pub returns : goal.returns
returns c =
    let r = mark_taken mark.Semicolon c.args.parser.now.cursor _ c.in_ok-expect.ensures.taken c.in_ok-expect.ensures.left in
    record { tree = rw c.over.ensures (stated Closed Empty r (one_fewer r) (c.place-at.ensures (omega (arith, one_fewer r))) (tt {0}) empty_row); refused = tt {0}; height = search rules; room = search rules; fewer = search rules }
