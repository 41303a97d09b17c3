use Rattle.std.proofs.Common.{arith, rules}
use Rattle.c_syntax.specs.declared.token.Punct.TheVariants as mark
use Rattle.c_expressions.proofs.Parts.{whole_refused, whole_unread}
use Rattle.c_declarations.proofs.DeclarationRows.{braced_taken}
use Rattle.c_declarations.proofs.FrontLemmas.{first_fails, second_fails, both_lead, one_leads, mark_fails}
use Rattle.c_declarations.proofs.ValueWays.{braced_too_high}
use Rattle.c_cursor.proofs.TakesLemmas.{mark_taken}
use Rattle.c_declarations.proofs.declarations.braced.Goals as goal

pub returns : goal.returns
returns c = record {
  tree = rw c.new.ensures (braced_taken _ (mark_taken mark.OpenBrace _ _ c.in_ok-expect.ensures.taken c.in_ok-expect.ensures.left) c.in_ok-values.ensures.tree
      (mark_taken mark.CloseBrace _ _ c.in_ok-expect-2.ensures.taken c.in_ok-expect-2.ensures.left));
  only = both_lead (one_leads c.in_ok-expect.ensures.left) (both_lead c.in_ok-values.ensures.only (one_leads c.in_ok-expect-2.ensures.left));
  refused = tt {0};
  height = search rules;
  room = search rules;
  fewer = search rules;
}

pub returns-in_err-allow : goal.returns-in_err-allow
returns-in_err-allow c =
    whole_unread _ c.from_residual.result c.from_residual.ensures.1
    (braced_too_high c.args.depth (omega (arith, c.in_err-allow.ensures.refused)))

pub returns-in_err-expect : goal.returns-in_err-expect
returns-in_err-expect c =
    whole_unread _ c.from_residual-in_err-expect.result c.from_residual-in_err-expect.ensures.1
    (first_fails (mark_fails c.in_err-expect.ensures.refused))

pub returns-in_err-values : goal.returns-in_err-values
returns-in_err-values c =
    whole_refused _ c.from_residual-in_err-values.result c.from_residual-in_err-values.ensures.1 c.in_err-values.ensures.refused
    (λ n. second_fails (one_leads c.in_ok-expect.ensures.left) (first_fails n))

pub returns-in_err-expect-2 : goal.returns-in_err-expect-2
returns-in_err-expect-2 c =
    whole_unread _ c.from_residual-in_err-expect-2.result c.from_residual-in_err-expect-2.ensures.1
    (second_fails (one_leads c.in_ok-expect.ensures.left) (second_fails c.in_ok-values.ensures.only (mark_fails c.in_err-expect-2.ensures.refused)))
