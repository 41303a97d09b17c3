use Rattle.std.proofs.Common.{arith}
use Rattle.c_syntax.specs.SyntaxTree.{Parameters}
use Rattle.c_syntax.specs.SyntaxView.{specs_of, parameters_of, item_form_of}
use Rattle.c_expressions.proofs.Parts.{part_refused, part_unread}
use Rattle.c_declarations.proofs.FrontLemmas.{first_fails, second_fails, fails_as, taken_leads}
use Rattle.c_cursor.proofs.Refusals.{goes_out}
use Rattle.c_cursor.proofs.TakesLemmas.{joined, behind_front, ok_mapped, not_there}
use Rattle.c_declarations.proofs.DeclarationRows.{item_front}
use Rattle.c_parser.proofs.UnitWays.{external_ways, plain_rest, no_list, no_ends, no_declaration_end, no_function_end}
use Rattle.c_parser.proofs.UnitTaken.{head_taken}
use Rattle.c_parser.proofs.units.external.Goals as goal

pub returns-in_err-specs : goal.returns-in_err-specs
returns-in_err-specs c = part_refused _ c.from_residual.result c.from_residual.ensures.1 c.in_err-specs.ensures.refused (λ n. fails_as (external_ways _) (first_fails n))

pub returns-in_err-name : goal.returns-in_err-name
returns-in_err-name c =
    part_refused _ c.from_residual-in_err-name.result c.from_residual-in_err-name.ensures.1 c.in_err-name.ensures.refused
    (λ n. fails_as (external_ways _) (second_fails c.in_ok-specs.ensures.only (second_fails c.whole_stars-stars.ensures.only (first_fails n))))

pub returns-in_err-kind : goal.returns-in_err-kind
returns-in_err-kind c =
    let none = not_there c.stands.ensures c.if-not-stands.true in
    part_refused _ c.from_residual-in_err-kind.result c.from_residual-in_err-kind.ensures.1 c.in_err-kind.ensures.refused
    (λ n. fails_as (external_ways _) (second_fails c.in_ok-specs.ensures.only (second_fails c.whole_stars-stars.ensures.only (second_fails (taken_leads c.in_ok-name.ensures.tree) (fails_as (plain_rest _ none) (first_fails n))))))

pub returns-then-not-stands : goal.returns-then-not-stands
returns-then-not-stands c = record {
  tree = let front = item_front c.whole_stars-stars.result c.in_ok-name.name (item_form_of c.in_ok-kind.kind.tree) c.place-item_at.result c.whole_stars-stars.ensures.tree c.in_ok-name.ensures.tree c.in_ok-kind.ensures.tree
      (omega (arith, c.whole_stars-stars.ensures.no_more, c.in_ok-name.ensures.fewer, c.in_ok-kind.ensures.no_more)) (c.place-item_at.ensures (omega (arith, c.whole_stars-stars.ensures.no_more, c.in_ok-name.ensures.fewer))) in
      ok_mapped c.declared.result (λ p r. behind_front (joined c.in_ok-specs.ensures.tree front) r) c.declared.ensures.tree;
  refused = let none = not_there c.stands.ensures c.if-not-stands.true in
      goes_out c.declared.result
      (λ n. fails_as (external_ways _) (second_fails c.in_ok-specs.ensures.only (second_fails c.whole_stars-stars.ensures.only (second_fails (taken_leads c.in_ok-name.ensures.tree) (fails_as (plain_rest _ none) (second_fails c.in_ok-kind.ensures.only n))))))
      c.declared.ensures.refused;
  height = c.declared.ensures.height;
  room = c.declared.ensures.room;
  fewer = ok_mapped c.declared.result (λ p r. omega (arith, r, c.in_ok-specs.ensures.fewer, c.whole_stars-stars.ensures.no_more, c.in_ok-name.ensures.fewer, c.in_ok-kind.ensures.no_more)) c.declared.ensures.fewer;
}

pub returns-in_err-params : goal.returns-in_err-params
returns-in_err-params c =
    let paren = c.stands.ensures.0 c.if-not-stands.false in
    part_refused _ c.from_residual-in_err-params.result c.from_residual-in_err-params.ensures.1 c.in_err-params.ensures.refused
    (λ n. fails_as (external_ways _) (second_fails c.in_ok-specs.ensures.only (second_fails c.whole_stars-stars.ensures.only (second_fails (taken_leads c.in_ok-name.ensures.tree) (no_list paren n)))))

pub returns-then-stands : goal.returns-then-stands
returns-then-stands c = record {
  tree = let head = head_taken (specs_of c.in_ok-specs.specs) c.whole_stars-stars.result c.in_ok-name.name (parameters_of c.in_ok-params.params.tree) c.in_ok-specs.ensures.tree c.whole_stars-stars.ensures.tree c.in_ok-name.ensures.tree c.in_ok-params.ensures.tree in
      ok_mapped c.function.result (λ p r. behind_front head r) c.function.ensures.tree;
  refused = let paren = c.stands.ensures.0 c.if-not-stands.false in
      let brace = c.stands-2.ensures.0 c.if-stands.true in
      goes_out c.function.result
      (λ n. fails_as (external_ways _) (second_fails c.in_ok-specs.ensures.only (second_fails c.whole_stars-stars.ensures.only (second_fails (taken_leads c.in_ok-name.ensures.tree)
      (no_ends paren c.in_ok-params.ensures.tree (λ low. no_declaration_end brace) n)))))
      c.function.ensures.refused;
  height = c.function.ensures.height;
  room = c.function.ensures.room;
  fewer = ok_mapped c.function.result (λ p r. omega (arith, r, c.in_ok-specs.ensures.fewer, c.whole_stars-stars.ensures.no_more, c.in_ok-name.ensures.fewer, c.in_ok-params.ensures.fewer)) c.function.ensures.fewer;
}

pub returns-in_err-allow : goal.returns-in_err-allow
returns-in_err-allow c =
    let paren = c.stands.ensures.0 c.if-not-stands.false in
    let none = not_there c.stands-2.ensures c.if-stands.false in
    part_unread _ c.from_residual-in_err-allow.result c.from_residual-in_err-allow.ensures.1
    (fails_as (external_ways _) (second_fails c.in_ok-specs.ensures.only (second_fails c.whole_stars-stars.ensures.only (second_fails (taken_leads c.in_ok-name.ensures.tree)
    (no_ends paren c.in_ok-params.ensures.tree (λ low. absurd (omega (arith, low, c.in_err-allow.ensures.refused, c.in_ok-params.ensures.height))) (no_function_end none))))))

pub returns : goal.returns
returns c = record {
  tree = let front = item_front c.whole_stars-stars.result c.in_ok-name.name (Parameters (parameters_of c.in_ok-params.params.tree)) c.place-item_at.result c.whole_stars-stars.ensures.tree c.in_ok-name.ensures.tree c.in_ok-params.ensures.tree
      (omega (arith, c.whole_stars-stars.ensures.no_more, c.in_ok-name.ensures.fewer, c.in_ok-params.ensures.fewer)) (c.place-item_at.ensures (omega (arith, c.whole_stars-stars.ensures.no_more, c.in_ok-name.ensures.fewer))) in
      ok_mapped c.declared-2.result (λ p r. behind_front (joined c.in_ok-specs.ensures.tree front) (rw c.function_kind.ensures at r)) c.declared-2.ensures.tree;
  refused = let paren = c.stands.ensures.0 c.if-not-stands.false in
      let none = not_there c.stands-2.ensures c.if-stands.false in
      goes_out c.declared-2.result
      (λ n. fails_as (external_ways _) (second_fails c.in_ok-specs.ensures.only (second_fails c.whole_stars-stars.ensures.only (second_fails (taken_leads c.in_ok-name.ensures.tree)
      (no_ends paren c.in_ok-params.ensures.tree (λ low. n) (no_function_end none))))))
      c.declared-2.ensures.refused;
  height = c.declared-2.ensures.height;
  room = c.declared-2.ensures.room;
  fewer = ok_mapped c.declared-2.result (λ p r. omega (arith, r, c.in_ok-specs.ensures.fewer, c.whole_stars-stars.ensures.no_more, c.in_ok-name.ensures.fewer, c.in_ok-params.ensures.fewer)) c.declared-2.ensures.fewer;
}
