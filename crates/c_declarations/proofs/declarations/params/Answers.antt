use Rattle.std.proofs.Common.{map, sym, ap, ◌∙◌, arith, rules}
use Rattle.c_syntax.specs.SyntaxView.{parameter_of}
use Rattle.c_expressions.proofs.Parts.{whole_refused, whole_unread}
use Rattle.c_declarations.proofs.DeclarationRows.{void_taken, no_parameters, parameters_taken}
use Rattle.c_declarations.proofs.FrontLemmas.{fails_as, leads_as}
use Rattle.c_declarations.proofs.ParameterWays.{void_leads, parameters_ways, parameters_too_high}
use Rattle.c_cursor.proofs.TakesLemmas.{one_fewer}
use Rattle.c_declarations.proofs.declarations.params.Goals as goal

pub returns-then-is_void_alone : goal.returns-then-is_void_alone
returns-then-is_void_alone c = record {
  tree = let v = void_taken c.args.parser.now.cursor _ (sym c.if-is_void_alone.ensures) c.skip.ensures.behind in
      no_parameters v (c.place-at.ensures (omega (arith, one_fewer v))) (ap (λ l. map parameter_of l) (c.new-then-is_void_alone.ensures ∙ c.new.ensures.items));
  only = void_leads (sym c.if-is_void_alone.ensures) c.skip.ensures.behind;
  refused = tt {0};
  height = search rules;
  room = search rules;
  fewer = search rules;
}

pub returns : goal.returns
returns c = record {
  tree = parameters_taken (rw c.new-2.ensures c.in_ok-list.ensures.tree) c.in_ok-list.ensures.fewer (c.place-at.ensures (omega (arith, c.in_ok-list.ensures.fewer)));
  only = leads_as (parameters_ways c.args.depth _ (sym c.if-is_void_alone.ensures)) c.in_ok-list.ensures.only;
  refused = tt {0};
  height = search rules;
  room = search rules;
  fewer = search rules;
}

pub returns-in_err-allow : goal.returns-in_err-allow
returns-in_err-allow c =
    whole_unread _ c.from_residual.result c.from_residual.ensures.1
    (parameters_too_high (omega (arith, c.in_err-allow.ensures.refused)))

pub returns-in_err-list : goal.returns-in_err-list
returns-in_err-list c =
    whole_refused _ c.from_residual-in_err-list.result c.from_residual-in_err-list.ensures.1 c.in_err-list.ensures.refused
    (λ n. fails_as (parameters_ways c.args.depth _ (sym c.if-is_void_alone.ensures)) n)
