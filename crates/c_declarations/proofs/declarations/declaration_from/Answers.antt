use Rattle.std.proofs.Common.{map, refl, rules}
use Rattle.c_syntax.specs.declared.token.Punct.TheVariants as mark
use Rattle.c_syntax.specs.SyntaxTree.{DeclarationTree}
use Rattle.c_syntax.specs.SyntaxView.{specs_of, item_of}
use Rattle.c_expressions.proofs.Parts.{part_refused, part_unread}
use Rattle.c_declarations.proofs.DeclarationRows.{declaration_behind}
use Rattle.c_declarations.proofs.FrontLemmas.{first_fails, second_fails, mark_fails}
use Rattle.c_cursor.proofs.TakesLemmas.{mark_taken}
use Rattle.c_declarations.proofs.declarations.declaration_from.Goals as goal

pub returns : goal.returns
returns c = record {
  tree = let x : DeclarationTree = record { specs = specs_of c.args.specs; items = map item_of c.in_ok-items.items.tree.items; at = c.args.specs.at } in
      rw c.new.ensures (declaration_behind x (item_of c.args.first.tree) refl c.in_ok-items.ensures.tree (mark_taken mark.Semicolon _ _ c.in_ok-expect.ensures.taken c.in_ok-expect.ensures.left));
  refused = tt {0};
  height = search rules;
  room = search rules;
  fewer = search rules;
}

pub returns-in_err-items : goal.returns-in_err-items
returns-in_err-items c =
    part_refused _ c.from_residual.result c.from_residual.ensures.1 c.in_err-items.ensures.refused
    (λ n. first_fails n)

pub returns-in_err-expect : goal.returns-in_err-expect
returns-in_err-expect c =
    part_unread _ c.from_residual-in_err-expect.result c.from_residual-in_err-expect.ensures.1
    (second_fails c.in_ok-items.ensures.only (mark_fails c.in_err-expect.ensures.refused))
