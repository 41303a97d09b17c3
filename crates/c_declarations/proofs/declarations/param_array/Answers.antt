use Rattle.std.proofs.Common.{rules}
use Rattle.c_expressions.proofs.Parts.{any_refused}
use Rattle.c_declarations.proofs.FrontLemmas.{fails_as, leads_as}
use Rattle.c_declarations.proofs.ParameterWays.{no_array_leads, array_mark_ways}
use Rattle.c_cursor.proofs.TakesLemmas.{not_there}
use Rattle.c_declarations.proofs.declarations.param_array.Goals as goal

pub returns-then-not-stands : goal.returns-then-not-stands
returns-then-not-stands c = record {
  tree = search rules;
  only = no_array_leads (not_there c.stands.ensures c.if-not-stands.true);
  refused = tt {0};
  height = search rules;
  room = search rules;
  no_more = search rules;
}

pub returns-in_err-brackets : goal.returns-in_err-brackets
returns-in_err-brackets c =
    any_refused _ c.from_residual.result c.from_residual.ensures.1 c.in_err-brackets.ensures.refused
    (λ n. fails_as (array_mark_ways c.args.depth _ (c.stands.ensures.0 c.if-not-stands.false)) n)

pub returns : goal.returns
returns c = record {
  tree = search rules;
  only = leads_as (array_mark_ways c.args.depth _ (c.stands.ensures.0 c.if-not-stands.false)) c.in_ok-brackets.ensures.only;
  refused = tt {0};
  height = search rules;
  room = search rules;
  no_more = search rules;
}
