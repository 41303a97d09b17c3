use Rattle.std.proofs.Common.{arith, rules, ◌∙◌}
use Rattle.c_syntax.specs.declared.token.Punct.TheVariants as mark
use Rattle.c_syntax.specs.SyntaxView.{expression_of}
use Rattle.c_expressions.proofs.Parts.{whole_refused, whole_unread, whole_unkept}
use Rattle.c_declarations.proofs.FrontLemmas.{first_fails, second_fails, both_lead, fails_as, leads_as, one_leads, mark_fails}
use Rattle.c_statements.proofs.StatementWays.{tested_ways}
use Rattle.c_declarations.proofs.FrontMarks.{expression_too_high}
use Rattle.c_cursor.proofs.TakesLemmas.{mapped, joined, mark_taken}
use Rattle.c_statements.proofs.StatementRows.{tested_row}
use Rattle.c_statements.proofs.statements.tested.Goals as goal

pub returns : goal.returns
returns c = record {
  tree = rw (c.in_ok-whole.ensures.part, c.in_ok-tested.ensures.tree) (mapped (tested_row (expression_of c.in_ok-test.test.tree)) (joined (mark_taken mark.OpenParen _ _ c.in_ok-expect.ensures.taken c.in_ok-expect.ensures.left)
      (joined c.in_ok-test.ensures.tree (mark_taken mark.CloseParen _ _ c.in_ok-whole.ensures.taken c.in_ok-whole.ensures.left))));
  only = leads_as (tested_ways c.args.depth _) (both_lead (one_leads c.in_ok-expect.ensures.left) (both_lead c.in_ok-test.ensures.only (one_leads c.in_ok-whole.ensures.left)));
  refused = tt {0};
  height = rw (c.in_ok-whole.ensures.part, c.in_ok-tested.ensures.tree) (c.in_ok-tested.ensures.height ∙ c.in_ok-test.ensures.height);
  room = rw (c.in_ok-whole.ensures.part, c.in_ok-tested.ensures.height) c.in_ok-test.ensures.room;
  fewer = search rules;
}

pub returns-in_err-expect : goal.returns-in_err-expect
returns-in_err-expect c = whole_unread _ c.from_residual.result c.from_residual.ensures.1 (fails_as (tested_ways c.args.depth _) (first_fails (mark_fails c.in_err-expect.ensures.refused)))

pub returns-in_err-test : goal.returns-in_err-test
returns-in_err-test c =
    whole_refused _ c.from_residual-in_err-test.result c.from_residual-in_err-test.ensures.1 c.in_err-test.ensures.refused
    (λ n. fails_as (tested_ways c.args.depth _) (second_fails (one_leads c.in_ok-expect.ensures.left) (first_fails n)))

pub returns-in_err-whole : goal.returns-in_err-whole
returns-in_err-whole c =
    whole_unread _ c.from_residual-in_err-whole.result c.from_residual-in_err-whole.ensures.1
    (fails_as (tested_ways c.args.depth _) (second_fails (one_leads c.in_ok-expect.ensures.left) (second_fails c.in_ok-test.ensures.only (mark_fails c.in_err-whole.ensures.refused))))

pub returns-in_err-allow : goal.returns-in_err-allow
returns-in_err-allow c = whole_unread _ c.from_residual-in_err-allow.result c.from_residual-in_err-allow.ensures.1 (fails_as (tested_ways c.args.depth _) (second_fails (one_leads c.in_ok-expect.ensures.left) (first_fails (expression_too_high (omega (arith, c.in_err-allow.ensures.refused))))))

pub returns-in_err-tested : goal.returns-in_err-tested
returns-in_err-tested c = whole_unkept _ c.from_residual-in_err-tested.result c.from_residual-in_err-tested.ensures.1 c.in_err-tested.ensures.memory
