use Rattle.std.proofs.Common.{rules, ◌≡◌, ◌∙◌, ◌||◌, not, true, sym}
use Rattle.std.proofs.lemmas.List.{length-map}
use Rattle.c_syntax.specs.SyntaxView.{item_of}
use Rattle.c_rules.specs.declared.meaning.Declared.TheVariants as declares
use Rattle.c_rules.specs.Answers.{Refuses}
use Rattle.c_scopes.specs.Tables.{scope_of}
use Rattle.c_rules.specs.Units.{item_as, static_list}
use Rattle.c_types.specs.View.{file_of}
use Rattle.c_scopes.specs.c_names.Statics.{static_tree_of}
use Rattle.c_objects.specs.InitialiserView.{starts_of}
use Rattle.c_types.proofs.UnitLemmas.{starts_refused, redeclared_refused, declared_refused, not_allowed, allowed_twice, allowed_once, refused_first}
use Rattle.c_types.proofs.units.File.object.Goals.{then-not-allowed-via-then-not-allowed, then-not-allowed-via-else-not-allowed+then-is_twice}
use Rattle.c_types.proofs.units.File.object.Goals as goal

pub returns-in_err-starts : goal.returns-in_err-starts
returns-in_err-starts c =
    let f = file_of c.args.self.now in
    let allowed = c.in_ok-allowed.allowed in
    let twice = c.is_twice-is_twice.result in
    let h : Refuses (item_as f (declares.Object c.args.object_type) (item_of c.args.item.now)) c.in_err-starts.field-0.0 =
    starts_refused f (item_of c.args.item.now) (declares.Object c.args.object_type) (scope_of c.declare_static.new.scopes) c.as_str-name.result.now c.len-next.result allowed twice
    c.as_str-name.ensures (c.len-next.ensures ∙ c.args.self.now.statics.ok.0 ∙ sym (length-map c.args.self.now.statics.items static_tree_of)) c.in_ok-allowed.ensures.declared c.in_ok-allowed.ensures.allowed c.is_twice-is_twice.ensures
    c.in_err-starts.field-0.0 c.in_err-starts.ensures in
    search (rules, h)

pub returns-then-not-allowed : goal.returns-then-not-allowed
returns-then-not-allowed c =
    let f = file_of c.args.self.now in
    let allowed = c.in_ok-allowed.allowed in
    let twice = c.is_twice-is_twice.result in
    let broken : (not allowed || twice) ≡ true = elim c.then-not-allowed.branch [
      | then-not-allowed-via-then-not-allowed w ↦ not_allowed allowed twice w.if-not-allowed.true
      | then-not-allowed-via-else-not-allowed+then-is_twice w ↦ allowed_twice allowed twice w.if-not-allowed.false w.if-is_twice.true
    ] in
    redeclared_refused f (item_of c.args.item.now) (declares.Object c.args.object_type) (scope_of c.declare_static.new.scopes) c.as_str-name.result.now c.len-next.result allowed twice
    c.as_str-name.ensures (c.len-next.ensures ∙ c.args.self.now.statics.ok.0 ∙ sym (length-map c.args.self.now.statics.items static_tree_of)) c.in_ok-allowed.ensures.declared c.in_ok-allowed.ensures.allowed c.is_twice-is_twice.ensures
    (starts_of c.in_ok-starts.starts.value) c.in_ok-starts.ensures c.redeclared.result broken c.redeclared.ensures

pub returns-in_err-list : goal.returns-in_err-list
returns-in_err-list c =
    let f = file_of c.args.self.now in
    let allowed = c.in_ok-allowed.allowed in
    let twice = c.is_twice-is_twice.result in
    let h : Refuses (item_as f (declares.Object c.args.object_type) (item_of c.args.item.now)) c.in_err-list.field-0.0 =
    declared_refused f (item_of c.args.item.now) (declares.Object c.args.object_type) (scope_of c.declare_static.new.scopes) c.as_str-name.result.now c.len-next.result allowed twice
    c.as_str-name.ensures (c.len-next.ensures ∙ c.args.self.now.statics.ok.0 ∙ sym (length-map c.args.self.now.statics.items static_tree_of)) c.in_ok-allowed.ensures.declared c.in_ok-allowed.ensures.allowed c.is_twice-is_twice.ensures
    (starts_of c.in_ok-starts.starts.value) c.in_ok-starts.ensures c.in_err-list.field-0.0 (allowed_once allowed twice c.if-not-allowed.false c.if-is_twice.false)
    (refused_first (static_list c.args.object_type c.args.item.now.at (starts_of c.in_ok-starts.starts.value)) _ c.in_err-list.field-0.0 (rw c.into_inner-starts.ensures at c.in_err-list.ensures)) in
    search (rules, h)
