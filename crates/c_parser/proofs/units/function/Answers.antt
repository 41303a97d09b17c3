use Rattle.std.proofs.Common.{refl, map, rules}
use Rattle.c_syntax.specs.declared.token.Punct.TheVariants as mark
use Rattle.c_syntax.specs.SyntaxTree.{FunctionSyntax}
use Rattle.c_syntax.specs.SyntaxView.{specs_of, parameters_of, declaration_of, body_of}
use Rattle.c_expressions.proofs.Parts.{part_refused, part_unread}
use Rattle.c_declarations.proofs.FrontLemmas.{first_fails, second_fails, one_leads, mark_fails}
use Rattle.c_cursor.proofs.TakesLemmas.{mark_taken}
use Rattle.c_parser.proofs.UnitTaken.{function_body}
use Rattle.c_parser.proofs.units.function.Goals as goal

pub returns-in_err-expect : goal.returns-in_err-expect
returns-in_err-expect c = part_unread _ c.from_residual.result c.from_residual.ensures.1 (first_fails (mark_fails c.in_err-expect.ensures.refused))

pub returns-in_err-body : goal.returns-in_err-body
returns-in_err-body c = part_refused _ c.from_residual-in_err-body.result c.from_residual-in_err-body.ensures.1 c.in_err-body.ensures.refused (λ n. second_fails (one_leads c.in_ok-expect.ensures.left) n)

pub returns : goal.returns
returns c = record {
  tree = let x : FunctionSyntax = record {
    specs = specs_of c.args.specs;
    stars = c.args.stars;
    name = c.args.name;
    parameters = parameters_of c.args.params.tree;
    declarations = map declaration_of c.in_ok-body.body.tree.declarations.items;
    statements = body_of c.in_ok-body.body.tree.statements.items;
    body_at = c.place-body_at.result;
    at = c.args.specs.at;
  } in
      rw (c.new.ensures, c.new-2.ensures) (function_body x refl c.place-body_at.ensures (mark_taken mark.OpenBrace _ _ c.in_ok-expect.ensures.taken c.in_ok-expect.ensures.left) c.in_ok-body.ensures.tree c.in_ok-body.ensures.fewer);
  refused = tt {0};
  height = search rules;
  room = search rules;
  fewer = search rules;
}
