use Rattle.std.proofs.Common.{rules, arith}
use Rattle.c_syntax.specs.declared.token.Punct.TheVariants as mark
use Rattle.c_syntax.specs.declared.token.Keyword.TheVariants as keyword
use Rattle.c_syntax.specs.SyntaxTree.{Continue}
use Rattle.c_syntax.specs.Derives.{Closed}
use Rattle.c_cursor.proofs.TakesLemmas.{joined, mark_taken, word_taken, one_fewer}
use Rattle.c_statements.proofs.StatementRows.{stated, continue_row}
use Rattle.c_declarations.proofs.FrontLemmas.{second_fails, fails_as, one_leads, mark_fails}
use Rattle.c_expressions.proofs.Parts.{part_unread}
use Rattle.c_statements.proofs.StatementWays.{continue_ways}
use Rattle.c_statements.proofs.statements.continued.Goals as goal

pub returns : goal.returns
returns c =
    let w = word_taken keyword.Continue c.args.parser.now.cursor _ c.in_ok-expect_keyword.ensures.taken c.in_ok-expect_keyword.ensures.left in
    let m = mark_taken mark.Semicolon c.expect_keyword.new.self _ c.in_ok-expect.ensures.taken c.in_ok-expect.ensures.left in
    record { tree = rw c.over.ensures (stated Closed Continue (joined w m) (omega (arith, one_fewer w, one_fewer m)) (c.place-at.ensures (omega (arith, one_fewer w))) (tt {0}) continue_row); refused = tt {0}; height = search rules; room = search rules; fewer = search rules }

pub returns-in_err-expect : goal.returns-in_err-expect
returns-in_err-expect c =
    part_unread _ c.from_residual-in_err-expect.result c.from_residual-in_err-expect.ensures.1
    (fails_as (continue_ways c.args.depth _ c.requires.begun) (second_fails (one_leads c.in_ok-expect_keyword.ensures.left) (mark_fails c.in_err-expect.ensures.refused)))
