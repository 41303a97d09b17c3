use Rattle.std.proofs.Common.{◌∙◌, ap, sym, map}
use Rattle.c_syntax.specs.SyntaxView.{declaration_of, body_of}
use Rattle.c_rules.specs.LocalView.{local_tree_of}
use Rattle.c_rules.specs.Statements.{typed_body}
use Rattle.c_scopes.specs.Tables.{around_of, scope_of}
use Rattle.c_scopes.proofs.ScopesKept.{closed_again}
use Rattle.c_types.proofs.units.typed_body.Goals as goal

pub returns-clause-follows : goal.returns-clause-follows
returns-clause-follows c =
    let f = c.args.f.now in
    let locals = map local_tree_of c.args.locals.items in
    ap (λ d. typed_body c.args.kind (scope_of c.args.scopes.now) locals (map declaration_of d) (body_of f.statements)) (sym c.as_slice-declarations.ensures)
    ∙ ap (λ b. typed_body c.args.kind (scope_of c.args.scopes.now) locals (map declaration_of c.as_slice-declarations.result.now) (body_of b)) (sym c.as_slice-statements.ensures)
    ∙ ap (λ x. typed_body c.args.kind (scope_of x) locals (map declaration_of c.as_slice-declarations.result.now) (body_of c.as_slice-statements.result.now)) (sym c.replace.ensures.value)
    ∙ c.in_ok-tree.ensures.follows

pub returns-clause-kept : goal.returns-clause-kept
returns-clause-kept c = λ outer rest around.
    c.close.ensures
    ∙ closed_again (scope_of c.body.new.self.scopes) outer rest (around_of c.body.new.self.scopes)
    (ap (λ k. k.scopes) c.in_ok-tree.ensures.kept ∙ ap around_of c.replace.ensures.value ∙ around)
