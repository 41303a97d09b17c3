use Rattle.std.proofs.Common.{sym, arith, rules}
use Rattle.c_syntax.specs.SyntaxTree.{ParameterTree}
use Rattle.c_syntax.specs.SyntaxView.{specs_of, array_of}
use Rattle.c_expressions.proofs.Parts.{whole_as, whole_refused, whole_unread}
use Rattle.c_declarations.proofs.DeclarationRows.{is_parameter}
use Rattle.c_declarations.proofs.FrontLemmas.{first_fails, second_fails, both_lead, fails_as, leads_as}
use Rattle.c_cursor.proofs.Refusals.{refuses_all}
use Rattle.c_declarations.proofs.ParameterWays.{parameter_ways, parameter_too_high, not_separated, before_leads, void_no_parameter}
use Rattle.c_cursor.proofs.TakesLemmas.{joined}
use Rattle.c_declarations.proofs.declarations.param.Goals as goal

pub returns : goal.returns
returns c = record {
  tree = let x : ParameterTree = record { specs = specs_of c.in_ok-specs.specs; stars = c.whole_stars-stars.result; name = c.in_ok-name.name; array = array_of c.in_ok-array.array.tree; at = c.place-at.result } in
      let r = joined c.in_ok-specs.ensures.tree (joined c.whole_stars-stars.ensures.tree (joined c.in_ok-name.ensures.tree c.in_ok-array.ensures.tree)) in
      rw c.in_ok-last.ensures.part (record {
        taken = r.taken;
        cut = r.cut;
        is = is_parameter x (sym c.if-is_void_word.ensures) c.in_ok-last.ensures.there (c.place-at.ensures (omega (arith, c.in_ok-specs.ensures.fewer)))
            (omega (arith, c.in_ok-specs.ensures.fewer, c.whole_stars-stars.ensures.no_more, c.in_ok-name.ensures.no_more, c.in_ok-array.ensures.no_more)) r;
      });
  only = leads_as (parameter_ways c.args.depth _) (both_lead c.in_ok-specs.ensures.only (both_lead c.whole_stars-stars.ensures.only (both_lead c.in_ok-name.ensures.only (both_lead c.in_ok-array.ensures.only before_leads))));
  refused = tt {0};
  height = search rules;
  room = search rules;
  fewer = search rules;
}

pub returns-then-is_void_word : goal.returns-then-is_void_word
returns-then-is_void_word c = whole_as c.refused_behind.result (refuses_all c.refused_behind.result (void_no_parameter (sym c.if-is_void_word.ensures)))

pub returns-in_err-allow_parameter : goal.returns-in_err-allow_parameter
returns-in_err-allow_parameter c =
    whole_unread _ c.from_residual.result c.from_residual.ensures.1
    (parameter_too_high c.in_err-allow_parameter.ensures.refused)

pub returns-in_err-specs : goal.returns-in_err-specs
returns-in_err-specs c =
    whole_refused _ c.from_residual-in_err-specs.result c.from_residual-in_err-specs.ensures.1 c.in_err-specs.ensures.refused
    (λ n. fails_as (parameter_ways c.args.depth _) (first_fails n))

pub returns-in_err-name : goal.returns-in_err-name
returns-in_err-name c =
    whole_refused _ c.from_residual-in_err-name.result c.from_residual-in_err-name.ensures.1 c.in_err-name.ensures.refused
    (λ n. fails_as (parameter_ways c.args.depth _) (second_fails c.in_ok-specs.ensures.only (second_fails c.whole_stars-stars.ensures.only (first_fails n))))

pub returns-in_err-array : goal.returns-in_err-array
returns-in_err-array c =
    whole_refused _ c.from_residual-in_err-array.result c.from_residual-in_err-array.ensures.1 c.in_err-array.ensures.refused
    (λ n. fails_as (parameter_ways c.args.depth _) (second_fails c.in_ok-specs.ensures.only (second_fails c.whole_stars-stars.ensures.only (second_fails c.in_ok-name.ensures.only (first_fails n)))))

pub returns-in_err-last : goal.returns-in_err-last
returns-in_err-last c =
    whole_unread _ c.from_residual-in_err-last.result c.from_residual-in_err-last.ensures.1
    (fails_as (parameter_ways c.args.depth _) (second_fails c.in_ok-specs.ensures.only (second_fails c.whole_stars-stars.ensures.only (second_fails c.in_ok-name.ensures.only (second_fails c.in_ok-array.ensures.only (not_separated c.in_err-last.ensures.refused))))))
