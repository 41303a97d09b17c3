use Rattle.std.proofs.Common.{arith, rules}
use Rattle.c_syntax.specs.SyntaxView.{item_form_of}
use Rattle.c_expressions.proofs.Parts.{whole_refused}
use Rattle.c_declarations.proofs.DeclarationRows.{item_front}
use Rattle.c_declarations.proofs.FrontLemmas.{first_fails, second_fails, both_lead, fails_as, leads_as, taken_leads}
use Rattle.c_cursor.proofs.Refusals.{goes_out}
use Rattle.c_declarations.proofs.DeclarationWays.{item_ways}
use Rattle.c_cursor.proofs.TakesLemmas.{behind_front, ok_mapped}
use Rattle.c_declarations.proofs.declarations.item.Goals as goal

pub returns : goal.returns
returns c = record {
  tree = let front = item_front c.whole_stars-stars.result c.in_ok-name.name (item_form_of c.in_ok-kind.kind.tree) c.place-at.result c.whole_stars-stars.ensures.tree c.in_ok-name.ensures.tree c.in_ok-kind.ensures.tree
      (omega (arith, c.whole_stars-stars.ensures.no_more, c.in_ok-name.ensures.fewer, c.in_ok-kind.ensures.no_more)) (c.place-at.ensures (omega (arith, c.whole_stars-stars.ensures.no_more, c.in_ok-name.ensures.fewer))) in
      ok_mapped c.item_from.result (λ p r. behind_front front r) c.item_from.ensures.tree;
  only = ok_mapped c.item_from.result (λ p o. leads_as (item_ways c.args.depth _) (both_lead c.whole_stars-stars.ensures.only (both_lead (taken_leads c.in_ok-name.ensures.tree) (both_lead c.in_ok-kind.ensures.only o)))) c.item_from.ensures.only;
  refused = goes_out c.item_from.result (λ n. fails_as (item_ways c.args.depth _) (second_fails c.whole_stars-stars.ensures.only (second_fails (taken_leads c.in_ok-name.ensures.tree) (second_fails c.in_ok-kind.ensures.only n)))) c.item_from.ensures.refused;
  height = search rules;
  room = search rules;
  fewer = search rules;
}

pub returns-in_err-name : goal.returns-in_err-name
returns-in_err-name c =
    whole_refused _ c.from_residual.result c.from_residual.ensures.1 c.in_err-name.ensures.refused
    (λ n. fails_as (item_ways c.args.depth _) (second_fails c.whole_stars-stars.ensures.only (first_fails n)))

pub returns-in_err-kind : goal.returns-in_err-kind
returns-in_err-kind c =
    whole_refused _ c.from_residual-in_err-kind.result c.from_residual-in_err-kind.ensures.1 c.in_err-kind.ensures.refused
    (λ n. fails_as (item_ways c.args.depth _) (second_fails c.whole_stars-stars.ensures.only (second_fails (taken_leads c.in_ok-name.ensures.tree) (first_fails n))))
