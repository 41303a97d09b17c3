use Rattle.std.proofs.Common.{inl, refl, rules}
use Rattle.c_syntax.specs.declared.token.Punct.TheVariants as mark
use Rattle.c_syntax.specs.declared.token.Keyword.TheVariants as keyword
use Rattle.c_syntax.specs.SyntaxView.{optional_of}
use Rattle.c_cursor.proofs.TakesLemmas.{mapped, joined, mark_taken, word_taken}
use Rattle.c_expressions.proofs.Parts.{part_refused, part_unread}
use Rattle.c_statements.proofs.StatementRows.{for_head_row}
use Rattle.c_declarations.proofs.FrontLemmas.{first_fails, second_fails, fails_as, one_leads, mark_fails, word_fails}
use Rattle.c_statements.proofs.StatementWays.{for_head_ways}
use Rattle.c_statements.proofs.StatementOnly.{optional_only}
use Rattle.c_statements.proofs.statements.for_head.Goals as goal

pub returns : goal.returns
returns c = record {
  tree = mapped (for_head_row (optional_of c.in_ok-first.first.tree.value) (optional_of c.in_ok-test.test.tree.value) (optional_of c.in_ok-third.third.tree.value))
      (joined (word_taken keyword.For _ _ c.in_ok-expect_keyword.ensures.taken c.in_ok-expect_keyword.ensures.left)
      (joined (mark_taken mark.OpenParen _ _ c.in_ok-expect.ensures.taken c.in_ok-expect.ensures.left)
      (joined c.in_ok-first.ensures.tree (joined c.in_ok-test.ensures.tree c.in_ok-third.ensures.tree))));
  refused = tt {0};
  height = search rules;
  room = search rules;
  fewer = search rules;
}

pub returns-in_err-expect_keyword : goal.returns-in_err-expect_keyword
returns-in_err-expect_keyword c = part_unread _ c.from_residual.result c.from_residual.ensures.1 (fails_as (for_head_ways c.args.depth _) (first_fails (word_fails c.in_err-expect_keyword.ensures.refused)))

pub returns-in_err-expect : goal.returns-in_err-expect
returns-in_err-expect c =
    part_unread _ c.from_residual-in_err-expect.result c.from_residual-in_err-expect.ensures.1
    (fails_as (for_head_ways c.args.depth _) (second_fails (one_leads c.in_ok-expect_keyword.ensures.left) (first_fails (mark_fails c.in_err-expect.ensures.refused))))

pub returns-in_err-first : goal.returns-in_err-first
returns-in_err-first c =
    part_refused _ c.from_residual-in_err-first.result c.from_residual-in_err-first.ensures.1 c.in_err-first.ensures.refused
    (λ n. fails_as (for_head_ways c.args.depth _) (second_fails (one_leads c.in_ok-expect_keyword.ensures.left) (second_fails (one_leads c.in_ok-expect.ensures.left) (first_fails n))))

pub returns-in_err-test : goal.returns-in_err-test
returns-in_err-test c =
    part_refused _ c.from_residual-in_err-test.result c.from_residual-in_err-test.ensures.1 c.in_err-test.ensures.refused
    (λ n. fails_as (for_head_ways c.args.depth _) (second_fails (one_leads c.in_ok-expect_keyword.ensures.left) (second_fails (one_leads c.in_ok-expect.ensures.left)
    (second_fails (optional_only (optional_of c.in_ok-first.first.tree.value) (inl refl) c.in_ok-first.ensures.tree) (first_fails n)))))

pub returns-in_err-third : goal.returns-in_err-third
returns-in_err-third c =
    part_refused _ c.from_residual-in_err-third.result c.from_residual-in_err-third.ensures.1 c.in_err-third.ensures.refused
    (λ n. fails_as (for_head_ways c.args.depth _) (second_fails (one_leads c.in_ok-expect_keyword.ensures.left) (second_fails (one_leads c.in_ok-expect.ensures.left)
    (second_fails (optional_only (optional_of c.in_ok-first.first.tree.value) (inl refl) c.in_ok-first.ensures.tree)
    (second_fails (optional_only (optional_of c.in_ok-test.test.tree.value) (inl refl) c.in_ok-test.ensures.tree) n)))))
