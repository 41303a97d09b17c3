use Rattle.std.proofs.Common.{arith, rules}
use Rattle.c_cursor.proofs.TakesLemmas.{not_there}
use Rattle.c_expressions.proofs.Parts.{any_refused, any_unread}
use Rattle.c_declarations.proofs.FrontLemmas.{fails_as, leads_as}
use Rattle.c_declarations.proofs.FrontMarks.{expression_too_high}
use Rattle.c_declarations.proofs.DeclarationWays.{no_length_leads, length_ways}
use Rattle.c_declarations.proofs.declarations.array_length.Goals as goal

pub returns-then-stands : goal.returns-then-stands
returns-then-stands c = record {
  tree = search rules;
  only = no_length_leads (c.stands.ensures.0 c.if-stands.true);
  refused = tt {0};
  height = search rules;
  room = search rules;
  no_more = search rules;
}

pub returns-in_err-allow : goal.returns-in_err-allow
returns-in_err-allow c = any_unread _ c.from_residual.result c.from_residual.ensures.1 (fails_as (length_ways c.args.depth _ (not_there c.stands.ensures c.if-stands.false)) (expression_too_high (omega (arith, c.in_err-allow.ensures.refused))))

pub returns-in_err-length : goal.returns-in_err-length
returns-in_err-length c =
    any_refused _ c.from_residual-in_err-length.result c.from_residual-in_err-length.ensures.1 c.in_err-length.ensures.refused
    (λ n. fails_as (length_ways c.args.depth _ (not_there c.stands.ensures c.if-stands.false)) n)

pub returns : goal.returns
returns c = record {
  tree = search rules;
  only = leads_as (length_ways c.args.depth _ (not_there c.stands.ensures c.if-stands.false)) c.in_ok-length.ensures.only;
  refused = tt {0};
  height = search rules;
  room = search rules;
  no_more = search rules;
}
