use Rattle.std.proofs.Common.{ap, arith}
use Rattle.c_syntax.specs.declared.decl.ItemKind.{ItemKind}
use Rattle.c_syntax.specs.SyntaxTree.{ItemTree}
use Rattle.c_syntax.specs.Measures.{item_form_height}
use Rattle.c_syntax.specs.SyntaxView.{item_form_of, initial_of}
use Rattle.c_expressions.specs.declared.parser.Tall.{Tall}
use Rattle.c_expressions.proofs.Parts.{any_refused}
use Rattle.c_declarations.proofs.DeclarationRows.{item_behind}
use Rattle.c_declarations.proofs.Joined.{of_ok, of_err}
use Rattle.c_declarations.proofs.declarations.item_from.Goals as goal

pub returns-in_err-both : goal.returns-in_err-both
returns-in_err-both c = any_refused _ c.from_residual.result c.from_residual.ensures.1 (of_err _ c.in_err-both.ensures.refused c.initialiser-init.ensures.refused) (λ n. n)

pub returns : goal.returns
returns c = record {
  tree = let x : ItemTree = record { stars = c.args.stars; name = c.args.name; form = item_form_of c.args.kind.tree; initial = initial_of c.in_ok-both.both.1.tree; at = c.args.at } in
      rw c.in_ok-both.ensures.first (item_behind x (of_ok _ c.in_ok-both.ensures.second c.initialiser-init.ensures.tree));
  only = of_ok _ c.in_ok-both.ensures.second c.initialiser-init.ensures.only;
  refused = tt {0};
  height = let first = c.in_ok-both.ensures.first in
      omega (arith, of_ok _ c.in_ok-both.ensures.second c.initialiser-init.ensures.height, ap (λ (k : Tall ItemKind). k.height) first, ap (λ (k : Tall ItemKind). item_form_height (item_form_of k.tree)) first, c.requires.kind_height);
  room = omega (arith, of_ok _ c.in_ok-both.ensures.second c.initialiser-init.ensures.room, ap (λ (k : Tall ItemKind). k.height) c.in_ok-both.ensures.first, c.requires.kind_room);
  no_more = of_ok _ c.in_ok-both.ensures.second c.initialiser-init.ensures.no_more;
}
