use Rattle.std.proofs.Common.{arith, rules}
use Rattle.c_syntax.specs.declared.token.Punct.TheVariants as mark
use Rattle.c_syntax.specs.declared.token.Keyword.TheVariants as keyword
use Rattle.c_syntax.specs.SyntaxView.{expression_of}
use Rattle.c_cursor.proofs.TakesLemmas.{mapped, joined, mark_taken, word_taken}
use Rattle.c_expressions.proofs.Parts.{whole_refused, whole_unread}
use Rattle.c_statements.proofs.StatementRows.{case_row}
use Rattle.c_declarations.proofs.FrontLemmas.{first_fails, second_fails, second_never, both_lead, one_leads, mark_fails, word_fails}
use Rattle.c_declarations.proofs.FrontMarks.{expression_too_high}
use Rattle.c_statements.proofs.statements.case_label.Goals as goal

pub returns : goal.returns
returns c = record {
  tree = rw c.in_ok-whole.ensures.part (mapped (case_row (expression_of c.in_ok-value.value.tree)) (joined (word_taken keyword.Case _ _ c.in_ok-expect_keyword.ensures.taken c.in_ok-expect_keyword.ensures.left)
      (joined c.in_ok-value.ensures.tree (mark_taken mark.Colon _ _ c.in_ok-whole.ensures.taken c.in_ok-whole.ensures.left))));
  only = both_lead (one_leads c.in_ok-expect_keyword.ensures.left) (both_lead c.in_ok-value.ensures.only (one_leads c.in_ok-whole.ensures.left));
  refused = tt {0};
  height = rw c.in_ok-whole.ensures.part (omega (arith, c.in_ok-value.ensures.height));
  room = rw c.in_ok-whole.ensures.part c.in_ok-value.ensures.room;
  fewer = search rules;
}

pub returns-in_err-allow : goal.returns-in_err-allow
returns-in_err-allow c = whole_unread _ c.from_residual.result c.from_residual.ensures.1 (second_never (λ m. first_fails (expression_too_high (omega (arith, c.in_err-allow.ensures.refused)))))

pub returns-in_err-expect_keyword : goal.returns-in_err-expect_keyword
returns-in_err-expect_keyword c = whole_unread _ c.from_residual-in_err-expect_keyword.result c.from_residual-in_err-expect_keyword.ensures.1 (first_fails (word_fails c.in_err-expect_keyword.ensures.refused))

pub returns-in_err-value : goal.returns-in_err-value
returns-in_err-value c =
    whole_refused _ c.from_residual-in_err-value.result c.from_residual-in_err-value.ensures.1 c.in_err-value.ensures.refused
    (λ n. second_fails (one_leads c.in_ok-expect_keyword.ensures.left) (first_fails n))

pub returns-in_err-whole : goal.returns-in_err-whole
returns-in_err-whole c = whole_unread _ c.from_residual-in_err-whole.result c.from_residual-in_err-whole.ensures.1 (second_fails (one_leads c.in_ok-expect_keyword.ensures.left) (second_fails c.in_ok-value.ensures.only (mark_fails c.in_err-whole.ensures.refused)))
