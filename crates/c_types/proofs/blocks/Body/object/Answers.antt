use Rattle.std.proofs.Common.{[], ◌∷◌, ◌++◌, map, ap, ◌∙◌}
use Rattle.c_syntax.specs.SyntaxView.{item_of}
use Rattle.c_objects.specs.InitialiserView.{initialiser_of, object_start_of}
use Rattle.c_rules.specs.LocalView.{local_tree_of}
use Rattle.c_scopes.specs.Tables.{scope_of}
use Rattle.c_types.specs.BodyView.{opened_of}
use Rattle.c_types.proofs.BlockLemmas.{object_placed, one_more}
use Rattle.c_types.proofs.blocks.Body.object.Goals as goal

pub returns-clause-follows : goal.returns-clause-follows
returns-clause-follows c =
    let so_far = map local_tree_of c.args.self.now.locals.items in
    object_placed (opened_of c.args.self.now c.args.opening.now) _ (scope_of c.args.self.now.scopes) c.args.reference c.args.object_type (item_of c.args.item.now) (initialiser_of c.args.initialiser.value) (object_start_of c.in_ok-start.start)
    (rw c.into_inner-initialiser.ensures at c.in_ok-start.ensures)
    (λ i. record {
      scope = scope_of c.args.self.now.scopes;
      locals = (ap (map local_tree_of) c.in_ok-push.ensures.items
          ∙ one_more c.args.self.now.locals.items _
          ∙ ap (λ n. so_far ++ record { name = n; object_type = c.args.object_type; values = c.in_ok-start.start.values } ∷ []) (c.in_ok-name.ensures ∙ c.as_str.ensures)) i;
      declared = c.in_ok-declare.ensures.declared i;
      statements = c.in_ok-declare.ensures.statements i;
    })
