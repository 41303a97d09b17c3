use Rattle.std.proofs.Common.{◌+◌, rules}
use Rattle.c_expressions.proofs.Parts.{part_refused}
use Rattle.c_declarations.proofs.FrontLemmas.{first_fails, second_fails, fails_as}
use Rattle.c_cursor.proofs.Refusals.{goes_out}
use Rattle.c_declarations.proofs.ListWays.{list_then_fails}
use Rattle.c_declarations.proofs.DeclarationWays.{declaration_ways, items_ways}
use Rattle.c_cursor.proofs.TakesLemmas.{joined, behind_front, ok_mapped}
use Rattle.c_declarations.proofs.declarations.declaration.Goals as goal

pub returns : goal.returns
returns c = record {
  tree = ok_mapped c.declaration_from.result (λ p r. behind_front (joined c.in_ok-specs.ensures.tree c.in_ok-first.ensures.tree) r) c.declaration_from.ensures.tree;
  refused = goes_out c.declaration_from.result (λ n. fails_as (declaration_ways c.args.depth _) (second_fails c.in_ok-specs.ensures.only (list_then_fails (items_ways (c.args.depth + 1) _) c.in_ok-first.ensures.only n))) c.declaration_from.ensures.refused;
  height = search rules;
  room = search rules;
  fewer = search rules;
}

pub returns-in_err-specs : goal.returns-in_err-specs
returns-in_err-specs c =
    part_refused _ c.from_residual.result c.from_residual.ensures.1 c.in_err-specs.ensures.refused
    (λ n. fails_as (declaration_ways c.args.depth _) (first_fails n))

pub returns-in_err-first : goal.returns-in_err-first
returns-in_err-first c =
    part_refused _ c.from_residual-in_err-first.result c.from_residual-in_err-first.ensures.1 c.in_err-first.ensures.refused
    (λ n. fails_as (declaration_ways c.args.depth _) (second_fails c.in_ok-specs.ensures.only (first_fails (fails_as (items_ways (c.args.depth + 1) _) (first_fails n)))))
