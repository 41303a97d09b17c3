use Rattle.std.proofs.Common.{arith, rules}
use Rattle.c_syntax.specs.Derives.{OneRule}
use Rattle.c_expressions.proofs.Parts.{any_refused, any_unread}
use Rattle.c_declarations.proofs.DeclarationRows.{initial_taken}
use Rattle.c_declarations.proofs.FrontLemmas.{second_fails, both_lead, fails_as, leads_as, one_leads, only_stays}
use Rattle.c_declarations.proofs.FrontMarks.{expression_too_high}
use Rattle.c_declarations.proofs.DeclarationWays.{initialiser_ways, no_initial_leads, braced_ways, value_ways}
use Rattle.c_cursor.proofs.TakesLemmas.{mapped, took, gone, kept, not_there}
use Rattle.c_declarations.proofs.declarations.initialiser.Goals as goal

pub returns-then-stands : goal.returns-then-stands
returns-then-stands c = record {
  tree = let at = c.place-at.ensures (omega (arith, c.in_ok-values.ensures.fewer)) in
      initial_taken (took c.take.ensures.taken c.take.ensures.left c.if-not-take.false) (rw at c.in_ok-values.ensures.tree);
  only = leads_as (initialiser_ways c.args.depth _ (c.take.ensures.taken.0 c.if-not-take.false)) (both_lead (one_leads (gone c.args.parser.now.cursor c.take.ensures.left c.if-not-take.false)) (leads_as (braced_ways c.args.depth _ (c.stands.ensures.0 c.if-stands.true)) c.in_ok-values.ensures.only));
  refused = tt {0};
  height = search rules;
  room = search rules;
  no_more = search rules;
}

pub returns : goal.returns
returns c = record {
  tree = initial_taken (took c.take.ensures.taken c.take.ensures.left c.if-not-take.false) (mapped (λ a r. OneRule r) c.in_ok-value.ensures.tree);
  only = leads_as (initialiser_ways c.args.depth _ (c.take.ensures.taken.0 c.if-not-take.false)) (both_lead (one_leads (gone c.args.parser.now.cursor c.take.ensures.left c.if-not-take.false)) (leads_as (value_ways c.args.depth _ (not_there c.stands.ensures c.if-stands.false)) c.in_ok-value.ensures.only));
  refused = tt {0};
  height = search rules;
  room = search rules;
  no_more = search rules;
}

pub returns-then-not-take : goal.returns-then-not-take
returns-then-not-take c = record {
  tree = search rules;
  only = only_stays (kept c.take.ensures.left c.if-not-take.true) (no_initial_leads (not_there c.take.ensures.taken c.if-not-take.true));
  refused = tt {0};
  height = search rules;
  room = search rules;
  no_more = search rules;
}

pub returns-in_err-values : goal.returns-in_err-values
returns-in_err-values c =
    any_refused _ c.from_residual.result c.from_residual.ensures.1 c.in_err-values.ensures.refused
    (λ n. fails_as (initialiser_ways c.args.depth _ (c.take.ensures.taken.0 c.if-not-take.false)) (second_fails (one_leads (gone c.args.parser.now.cursor c.take.ensures.left c.if-not-take.false)) (fails_as (braced_ways c.args.depth _ (c.stands.ensures.0 c.if-stands.true)) n)))

pub returns-in_err-allow : goal.returns-in_err-allow
returns-in_err-allow c =
    any_unread _ c.from_residual-in_err-allow.result c.from_residual-in_err-allow.ensures.1
    (fails_as (initialiser_ways c.args.depth _ (c.take.ensures.taken.0 c.if-not-take.false)) (second_fails (one_leads (gone c.args.parser.now.cursor c.take.ensures.left c.if-not-take.false)) (fails_as (value_ways c.args.depth _ (not_there c.stands.ensures c.if-stands.false)) (expression_too_high (omega (arith, c.in_err-allow.ensures.refused))))))

pub returns-in_err-value : goal.returns-in_err-value
returns-in_err-value c =
    any_refused _ c.from_residual-in_err-value.result c.from_residual-in_err-value.ensures.1 c.in_err-value.ensures.refused
    (λ n. fails_as (initialiser_ways c.args.depth _ (c.take.ensures.taken.0 c.if-not-take.false)) (second_fails (one_leads (gone c.args.parser.now.cursor c.take.ensures.left c.if-not-take.false)) (fails_as (value_ways c.args.depth _ (not_there c.stands.ensures c.if-stands.false)) n)))
