use Rattle.std.proofs.Common.{arith, rules}
use Rattle.c_syntax.specs.SyntaxView.{expression_of}
use Rattle.c_syntax.specs.Measures.{expression_height}
use Rattle.c_syntax.specs.Derives.{DerivesList, LastOfList}
use Rattle.c_expressions.proofs.Parts.{whole_refused}
use Rattle.c_declarations.proofs.Lists.{begun, grown, height_begun, height_grown, with_comma, list_more}
use Rattle.c_declarations.proofs.FrontLemmas.{first_fails, fails_as, leads_from, fails_on, only_on}
use Rattle.c_declarations.proofs.ListWays.{next_fails, next_leads}
use Rattle.c_declarations.proofs.ValueWays.{values_ways, values_over, values_go}
use Rattle.c_cursor.proofs.TakesLemmas.{mapped, joined}
use Rattle.c_declarations.proofs.declarations.values.Goals as goal

pub loop-parser-init : goal.loop-parser-init
loop-parser-init c = record {
  tree = begun expression_of DerivesList c.new-values.ensures.items c.in_ok-add.ensures.items (mapped (λ a r. LastOfList r) c.in_ok-first.ensures.tree);
  height = height_begun expression_of expression_height c.new-values.ensures.items c.in_ok-add.ensures.items c.in_ok-first.ensures.height;
  room = c.in_ok-first.ensures.room;
  fewer = c.in_ok-first.ensures.fewer;
  leads = leads_from (values_ways c.args.depth _) c.in_ok-first.ensures.only;
}

pub loop-parser-preserved : goal.loop-parser-preserved
loop-parser-preserved c = let more = c.list_goes_on.ensures.more c.loop-parser-test.true in record {
  tree = grown expression_of DerivesList _ _ c.in_ok-add-2.ensures.items (with_comma (λ a b t p m r. list_more a b t _ _ p m r) c.loop-parser.invariant.tree c.loop-parser-test.ensures.tree c.in_ok-next.ensures.tree);
  height = height_grown expression_of expression_height _ _ c.in_ok-add-2.ensures.items c.loop-parser.invariant.height c.in_ok-next.ensures.height c.max-highest.ensures;
  room = omega (arith, c.loop-parser.invariant.room, c.in_ok-next.ensures.room, c.max-highest.ensures);
  fewer = omega (arith, c.loop-parser.invariant.fewer, c.list_goes_on.ensures.no_more, c.in_ok-next.ensures.fewer);
  leads = next_leads c.loop-parser.invariant.leads more.0 (values_go more.0 more.1 more.2) more.1 (values_ways c.args.depth _) c.in_ok-next.ensures.only;
}

pub returns : goal.returns
returns c = record {
  tree = joined c.loop-parser.invariant.tree c.loop-parser-test.ensures.tree;
  only = only_on c.loop-parser.invariant.leads (values_over (c.list_goes_on.ensures.ended c.loop-parser-test.false));
  refused = tt {0};
  height = search rules;
  room = search rules;
  fewer = search rules;
}

pub returns-in_err-first : goal.returns-in_err-first
returns-in_err-first c =
    whole_refused _ c.from_residual.result c.from_residual.ensures.1 c.in_err-first.ensures.refused
    (λ n. fails_as (values_ways c.args.depth _) (first_fails n))

pub returns-in_err-next : goal.returns-in_err-next
returns-in_err-next c =
    let more = c.list_goes_on.ensures.more c.loop-parser-test.true in
    whole_refused _ c.from_residual-in_err-next.result c.from_residual-in_err-next.ensures.1 c.in_err-next.ensures.refused
    (λ n. fails_on c.loop-parser.invariant.leads (next_fails more.0 (values_go more.0 more.1 more.2) more.1 (values_ways c.args.depth _) n))
