use Rattle.std.proofs.Common.{arith, rules}
use Rattle.c_syntax.specs.declared.token.Punct.TheVariants as mark
use Rattle.c_syntax.specs.SyntaxView.{parameter_of}
use Rattle.c_syntax.specs.Measures.{parameter_height}
use Rattle.c_syntax.specs.Derives.{DerivesParameterList, LastParameter}
use Rattle.c_expressions.proofs.Parts.{whole_refused}
use Rattle.c_declarations.proofs.Lists.{begun, grown, height_begun, height_grown, with_comma, parameters_more}
use Rattle.c_declarations.proofs.FrontLemmas.{first_fails, fails_as, only_stays, leads_from, fails_on, only_on}
use Rattle.c_declarations.proofs.ListWays.{next_fails, next_leads, list_ends, no_end}
use Rattle.c_declarations.proofs.ParameterWays.{parameter_list_ways}
use Rattle.c_cursor.proofs.TakesLemmas.{mapped, took, gone, kept, not_there, one_fewer}
use Rattle.c_declarations.proofs.declarations.param_list.Goals as goal

pub loop-parser-init : goal.loop-parser-init
loop-parser-init c = record {
  tree = begun parameter_of DerivesParameterList c.new-list.ensures.items c.in_ok-add.ensures.items (mapped (λ a r. LastParameter r) c.in_ok-first.ensures.tree);
  height = height_begun parameter_of parameter_height c.new-list.ensures.items c.in_ok-add.ensures.items c.in_ok-first.ensures.height;
  room = c.in_ok-first.ensures.room;
  fewer = c.in_ok-first.ensures.fewer;
  leads = leads_from (parameter_list_ways c.args.depth _) c.in_ok-first.ensures.only;
}

pub loop-parser-preserved : goal.loop-parser-preserved
loop-parser-preserved c = let comma = c.take.ensures.taken.0 c.loop-parser-test.true in record {
  tree = grown parameter_of DerivesParameterList _ _ c.in_ok-add-2.ensures.items
      (with_comma (λ a b t p m r. parameters_more a b t _ _ p m r) c.loop-parser.invariant.tree (took c.take.ensures.taken c.take.ensures.left c.loop-parser-test.true) c.in_ok-next.ensures.tree);
  height = height_grown parameter_of parameter_height _ _ c.in_ok-add-2.ensures.items c.loop-parser.invariant.height c.in_ok-next.ensures.height c.max-highest.ensures;
  room = omega (arith, c.loop-parser.invariant.room, c.in_ok-next.ensures.room, c.max-highest.ensures);
  fewer = omega (arith, c.loop-parser.invariant.fewer, one_fewer (took c.take.ensures.taken c.take.ensures.left c.loop-parser-test.true), c.in_ok-next.ensures.fewer);
  leads = next_leads c.loop-parser.invariant.leads comma (no_end mark.CloseParen (λ k. cc) comma) (gone c.loop-parser.parser.cursor c.take.ensures.left c.loop-parser-test.true) (parameter_list_ways c.args.depth _) c.in_ok-next.ensures.only;
}

pub returns-in_err-first : goal.returns-in_err-first
returns-in_err-first c =
    whole_refused _ c.from_residual.result c.from_residual.ensures.1 c.in_err-first.ensures.refused
    (λ n. fails_as (parameter_list_ways c.args.depth _) (first_fails n))

pub returns-in_err-next : goal.returns-in_err-next
returns-in_err-next c =
    let comma = c.take.ensures.taken.0 c.loop-parser-test.true in
    whole_refused _ c.from_residual-in_err-next.result c.from_residual-in_err-next.ensures.1 c.in_err-next.ensures.refused
    (λ n. fails_on c.loop-parser.invariant.leads (next_fails comma (no_end mark.CloseParen (λ k. cc) comma) (gone c.loop-parser.parser.cursor c.take.ensures.left c.loop-parser-test.true) (parameter_list_ways c.args.depth _) n))

pub returns : goal.returns
returns c = record {
  tree = search rules;
  only = only_on c.loop-parser.invariant.leads (only_stays (kept c.take.ensures.left c.loop-parser-test.false) (list_ends (not_there c.take.ensures.taken c.loop-parser-test.false)));
  refused = tt {0};
  height = search rules;
  room = search rules;
  fewer = search rules;
}
