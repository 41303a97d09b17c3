use Rattle.std.proofs.Common.{◌≡◌, ◌∙◌, ap, sym, subst, length, vec_len, rules}
use Rattle.std.proofs.lemmas.List.{length-map}
use Rattle.c_syntax.specs.SyntaxView.{item_of}
use Rattle.c_rules.specs.Answers.{Follows, Refuses}
use Rattle.c_rules.specs.Statements.{block_item}
use Rattle.c_scopes.specs.Tables.{scope_of}
use Rattle.c_objects.specs.InitialiserView.{initialiser_of}
use Rattle.c_rules.specs.LocalView.{local_tree_of}
use Rattle.c_scopes.proofs.ScopesKept.{innermost}
use Rattle.c_types.specs.BodyView.{opened_of}
use Rattle.c_types.proofs.BlockLemmas.{function_refused, object_same, initialiser_refused, taken_refused, untyped_refused}
use Rattle.c_types.proofs.blocks.Body.item.Goals as goal

pub returns-in-Function-clause-follows : goal.returns-in-Function-clause-follows
returns-in-Function-clause-follows c =
    function_refused (opened_of c.args.self.now c.args.opening.now) c.args.base c.args.item.now
    (scope_of c.declarator.new.scopes) (scope_of c.declare_object.new.scopes) _ c.as_str-name.result.now
    c.in_ok-declared.declared c.in-Function.field-0 (initialiser_of c.in_ok-initialiser.initialiser.value) c.function_in_block.result
    c.in_ok-declared.ensures.follows c.in-Function.is (ap innermost c.in_ok-declared.ensures.kept) c.in_ok-declare_object.ensures.declared
    c.in_ok-initialiser.ensures c.as_str-name.ensures (sym c.is_taken-is_taken.ensures ∙ c.if-is_taken.false)
    c.function_in_block.ensures

pub returns-clause-follows : goal.returns-clause-follows
returns-clause-follows c =
    let o = opened_of c.args.self.now c.args.opening.now in
    let len_is : vec_len c.args.self.now.locals ≡ length c.args.self.now.locals.items = search (rules, c.args.self.now.locals.ok) in
    let count : c.in-Ok.number ≡ length o.locals = c.in-Ok.ensures.1 ∙ c.len.ensures ∙ len_is ∙ sym (length-map c.args.self.now.locals.items local_tree_of) in
    let same = object_same o c.args.base c.args.item.now (scope_of c.declarator.new.scopes) (scope_of c.declare_object.new.scopes) c.in-Ok.number c.as_str-name.result.now
    c.in_ok-declared.declared c.in-Object.object_type (initialiser_of c.in_ok-initialiser.initialiser.value)
    c.in_ok-declared.ensures.follows c.in-Object.is (ap innermost c.in_ok-declared.ensures.kept) c.in_ok-declare_object.ensures.declared
    c.in_ok-initialiser.ensures c.as_str-name.ensures (sym c.is_taken-is_taken.ensures ∙ c.if-is_taken.false) count
    in subst (λ made. Follows (λ _. opened_of c.object.new.self c.object.new.opening) made c.object.result) same c.object.ensures.follows

pub returns-in_err-initialiser-clause-follows : goal.returns-in_err-initialiser-clause-follows
returns-in_err-initialiser-clause-follows c =
    let o = opened_of c.args.self.now c.args.opening.now in
    let len_is : vec_len c.args.self.now.locals ≡ length c.args.self.now.locals.items = search (rules, c.args.self.now.locals.ok) in
    let count : c.in-Ok.number ≡ length o.locals = c.in-Ok.ensures.1 ∙ c.len.ensures ∙ len_is ∙ sym (length-map c.args.self.now.locals.items local_tree_of) in
    let h : Refuses (block_item o c.args.base (item_of c.args.item.now)) c.in_err-initialiser.field-0.0 =
    initialiser_refused o c.args.base c.args.item.now (scope_of c.declarator.new.scopes) (scope_of c.declare_object.new.scopes) c.in-Ok.number c.as_str-name.result.now c.in_ok-declared.declared
    c.in_ok-declared.ensures.follows (ap innermost c.in_ok-declared.ensures.kept) c.in_ok-declare_object.ensures.declared c.as_str-name.ensures count
    c.in_err-initialiser.field-0.0 c.in_err-initialiser.ensures in
    search (rules, h)

pub returns-then-is_taken-clause-follows : goal.returns-then-is_taken-clause-follows
returns-then-is_taken-clause-follows c =
    let o = opened_of c.args.self.now c.args.opening.now in
    let len_is : vec_len c.args.self.now.locals ≡ length c.args.self.now.locals.items = search (rules, c.args.self.now.locals.ok) in
    let count : c.in-Ok.number ≡ length o.locals = c.in-Ok.ensures.1 ∙ c.len.ensures ∙ len_is ∙ sym (length-map c.args.self.now.locals.items local_tree_of) in
    taken_refused o c.args.base c.args.item.now (scope_of c.declarator.new.scopes) (scope_of c.declare_object.new.scopes) c.in-Ok.number c.as_str-name.result.now c.in_ok-declared.declared
    c.in_ok-declared.ensures.follows (ap innermost c.in_ok-declared.ensures.kept) c.in_ok-declare_object.ensures.declared c.as_str-name.ensures count
    (initialiser_of c.in_ok-initialiser.initialiser.value) c.redeclared.result c.in_ok-initialiser.ensures (sym c.is_taken-is_taken.ensures ∙ c.if-is_taken.true) c.redeclared.ensures

pub returns-in-Untyped-clause-follows : goal.returns-in-Untyped-clause-follows
returns-in-Untyped-clause-follows c =
    let o = opened_of c.args.self.now c.args.opening.now in
    let len_is : vec_len c.args.self.now.locals ≡ length c.args.self.now.locals.items = search (rules, c.args.self.now.locals.ok) in
    let count : c.in-Ok.number ≡ length o.locals = c.in-Ok.ensures.1 ∙ c.len.ensures ∙ len_is ∙ sym (length-map c.args.self.now.locals.items local_tree_of) in
    untyped_refused o c.args.base c.args.item.now (scope_of c.declarator.new.scopes) (scope_of c.declare_object.new.scopes) c.in-Ok.number c.as_str-name.result.now c.in_ok-declared.declared
    c.in_ok-declared.ensures.follows (ap innermost c.in_ok-declared.ensures.kept) c.in_ok-declare_object.ensures.declared c.as_str-name.ensures count
    (initialiser_of c.in_ok-initialiser.initialiser.value) c.mismatch.result c.in_ok-initialiser.ensures (sym c.is_taken-is_taken.ensures ∙ c.if-is_taken.false) c.in-Untyped.is c.mismatch.ensures
