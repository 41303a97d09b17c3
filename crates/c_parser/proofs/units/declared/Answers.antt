use Rattle.std.proofs.Common.{rules}
use Rattle.c_syntax.specs.SyntaxView.{specs_of, item_form_of, item_of, declaration_of}
use Rattle.c_expressions.proofs.Parts.{part_refused}
use Rattle.c_declarations.proofs.FrontLemmas.{first_fails, second_fails}
use Rattle.c_parser.proofs.UnitTaken.{declared_taken}
use Rattle.c_parser.proofs.units.declared.Goals as goal

pub returns-in_err-first : goal.returns-in_err-first
returns-in_err-first c = part_refused _ c.from_residual.result c.from_residual.ensures.1 c.in_err-first.ensures.refused (λ n. first_fails n)

pub returns-in_err-declaration : goal.returns-in_err-declaration
returns-in_err-declaration c = part_refused _ c.from_residual-in_err-declaration.result c.from_residual-in_err-declaration.ensures.1 c.in_err-declaration.ensures.refused (λ n. second_fails c.in_ok-first.ensures.only n)

pub returns : goal.returns
returns c = record {
  tree = declared_taken (specs_of c.args.specs) (item_of c.in_ok-first.first.tree) (declaration_of c.in_ok-declaration.declaration.tree) c.args.stars c.args.name (item_form_of c.args.kind.tree) c.args.item_at
      c.in_ok-first.ensures.tree c.in_ok-declaration.ensures.tree;
  refused = tt {0};
  height = search rules;
  room = search rules;
  fewer = search rules;
}
