use Rattle.std.proofs.Common.{rules}
use Rattle.c_syntax.specs.declared.token.Punct.TheVariants as mark
use Rattle.c_syntax.specs.declared.token.Keyword.TheVariants as keyword
use Rattle.c_cursor.proofs.TakesLemmas.{joined, mark_taken, word_taken}
use Rattle.c_expressions.proofs.Parts.{part_refused, part_unread}
use Rattle.c_declarations.proofs.FrontLemmas.{first_fails, second_fails, fails_as, one_leads, mark_fails, word_fails}
use Rattle.c_statements.proofs.StatementWays.{do_test_ways}
use Rattle.c_statements.proofs.statements.do_test.Goals as goal

pub returns : goal.returns
returns c = record {
  tree = rw c.in_ok-whole.ensures.part (joined (word_taken keyword.While _ _ c.in_ok-expect_keyword.ensures.taken c.in_ok-expect_keyword.ensures.left)
      (joined c.in_ok-test.ensures.tree (mark_taken mark.Semicolon _ _ c.in_ok-whole.ensures.taken c.in_ok-whole.ensures.left)));
  refused = tt {0};
  height = rw c.in_ok-whole.ensures.part c.in_ok-test.ensures.height;
  room = rw c.in_ok-whole.ensures.part c.in_ok-test.ensures.room;
  fewer = search rules;
}

pub returns-in_err-expect_keyword : goal.returns-in_err-expect_keyword
returns-in_err-expect_keyword c = part_unread _ c.from_residual.result c.from_residual.ensures.1 (fails_as (do_test_ways c.args.depth _) (first_fails (word_fails c.in_err-expect_keyword.ensures.refused)))

pub returns-in_err-test : goal.returns-in_err-test
returns-in_err-test c =
    part_refused _ c.from_residual-in_err-test.result c.from_residual-in_err-test.ensures.1 c.in_err-test.ensures.refused
    (λ n. fails_as (do_test_ways c.args.depth _) (second_fails (one_leads c.in_ok-expect_keyword.ensures.left) (first_fails n)))

pub returns-in_err-whole : goal.returns-in_err-whole
returns-in_err-whole c =
    part_unread _ c.from_residual-in_err-whole.result c.from_residual-in_err-whole.ensures.1
    (fails_as (do_test_ways c.args.depth _) (second_fails (one_leads c.in_ok-expect_keyword.ensures.left) (second_fails c.in_ok-test.ensures.only (mark_fails c.in_err-whole.ensures.refused))))
