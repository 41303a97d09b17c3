use Rattle.std.proofs.Common.{◌≡◌, ◌∙◌, ap, refl, length, map}
use Rattle.c_syntax.specs.SyntaxView.{function_syntax_of, parameter_of}
use Rattle.c_rules.specs.LocalView.{local_tree_of}
use Rattle.c_rules.specs.Scopes.{open_scope}
use Rattle.c_rules.specs.Units.{with_parameters, parameter_locals}
use Rattle.c_scopes.specs.Tables.{around_of, scope_of}
use Rattle.c_scopes.proofs.ScopesKept.{innermost}
use Rattle.c_types.specs.View.{typed_body_of, file_of}
use Rattle.c_types.proofs.UnitLemmas.{body_typed, function_pushed}
use Rattle.c_types.proofs.units.File.body.Goals as goal

pub returns : goal.returns
returns c =
    let f = c.args.f.now in
    let old = c.args.self.now.scopes in
    let list = c.as_slice-list.result.now in
    let kept : scope_of c.typed_body.new.scopes ≡ scope_of old =
    ap innermost (c.in_ok-typed.ensures.kept (scope_of old) (around_of old) (c.in_ok-declare_parameters.ensures.around ∙ c.in_ok-open.ensures.around)) in
    body_typed (file_of c.args.self.now) (function_syntax_of f) c.args.kind c.args.kinds.now
    (scope_of c.declare_parameters.new.scopes) (map local_tree_of c.in_ok-locals.locals.items) (typed_body_of c.in_ok-typed.typed)
    (file_of (record { scopes = c.typed_body.new.scopes; statics = c.args.self.now.statics; functions = c.push.new.self }))
    (c.in_ok-declare_parameters.ensures.declared
    ∙ ap (λ s. with_parameters s 0 (map parameter_of list) c.args.kinds.now) c.in_ok-open.ensures.opened
    ∙ ap (λ l. with_parameters (open_scope (scope_of old)) 0 (map parameter_of l) c.args.kinds.now) c.as_slice-list.ensures)
    (c.in_ok-locals.ensures
    ∙ ap (λ l. parameter_locals (map parameter_of l) c.args.kinds.now) c.as_slice-list.ensures)
    c.in_ok-typed.ensures.follows
    (function_pushed (file_of c.args.self.now) (scope_of c.typed_body.new.scopes) c.args.self.now.functions.items c.push.new.self.items _ f.name c.args.kind c.args.kinds.now
    (typed_body_of c.in_ok-typed.typed)
    kept refl c.in_ok-push.ensures.items
    (λ i. record { name = (c.in_ok-name.ensures ∙ c.as_str-name.ensures) i; result = c.args.kind; parameters = length c.args.kinds.now; locals = (typed_body_of c.in_ok-typed.typed).locals; body = (typed_body_of c.in_ok-typed.typed).tree }))
