use Rattle.std.proofs.Common.{rules}
use Rattle.c_syntax.specs.declared.token.Punct.TheVariants as mark
use Rattle.c_syntax.specs.declared.token.Keyword.TheVariants as keyword
use Rattle.c_cursor.proofs.TakesLemmas.{mapped, joined, mark_taken, word_taken}
use Rattle.c_expressions.proofs.Parts.{whole_unread}
use Rattle.c_statements.proofs.StatementRows.{default_row}
use Rattle.c_declarations.proofs.FrontLemmas.{first_fails, second_fails, both_lead, one_leads, mark_fails, word_fails}
use Rattle.c_statements.proofs.statements.default_label.Goals as goal

pub returns : goal.returns
returns c = record {
  tree = mapped default_row (joined (word_taken keyword.Default _ _ c.in_ok-expect_keyword.ensures.taken c.in_ok-expect_keyword.ensures.left) (mark_taken mark.Colon _ _ c.in_ok-expect.ensures.taken c.in_ok-expect.ensures.left));
  only = both_lead (one_leads c.in_ok-expect_keyword.ensures.left) (one_leads c.in_ok-expect.ensures.left);
  refused = tt {0};
  height = search rules;
  room = search rules;
  fewer = search rules;
}

pub returns-in_err-expect_keyword : goal.returns-in_err-expect_keyword
returns-in_err-expect_keyword c = whole_unread _ c.from_residual.result c.from_residual.ensures.1 (first_fails (word_fails c.in_err-expect_keyword.ensures.refused))

pub returns-in_err-expect : goal.returns-in_err-expect
returns-in_err-expect c = whole_unread _ c.from_residual-in_err-expect.result c.from_residual-in_err-expect.ensures.1 (second_fails (one_leads c.in_ok-expect_keyword.ensures.left) (mark_fails c.in_err-expect.ensures.refused))
