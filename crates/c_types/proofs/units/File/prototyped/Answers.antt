use Rattle.std.proofs.Common.{rules, ◌≡◌, ◌∙◌, ◌||◌, not, true, ap, refl, length}
use Rattle.c_syntax.specs.SyntaxView.{item_of}
use Rattle.c_rules.specs.declared.meaning.Declared.TheVariants as declares
use Rattle.c_rules.specs.declared.fault.Rule.TheVariants.{Mismatch}
use Rattle.c_rules.specs.Answers.{Refuses}
use Rattle.c_rules.specs.Outcome.{Is, breaks}
use Rattle.c_scopes.specs.Tables.{scope_of}
use Rattle.c_rules.specs.Units.{item_as}
use Rattle.c_types.specs.View.{file_of}
use Rattle.c_objects.specs.InitialiserView.{starts_of}
use Rattle.c_types.proofs.UnitLemmas.{starts_refused, redeclared_refused, declared_item, not_allowed, allowed_twice, allowed_once, declared_refused, initial_given, breaks_mismatch}
use Rattle.c_types.proofs.units.File.prototyped.Goals.{then-not-allowed-via-then-not-allowed, then-not-allowed-via-else-not-allowed+then-is_twice}
use Rattle.c_types.proofs.units.File.prototyped.Goals as goal

pub returns-in_err-first_values : goal.returns-in_err-first_values
returns-in_err-first_values c =
    let f = file_of c.args.self.now in
    let h : Refuses (item_as f (declares.Function c.args.function) (item_of c.args.item.now)) c.in_err-first_values.field-0.0 =
    starts_refused f (item_of c.args.item.now) (declares.Function c.args.function) (scope_of c.declare_function.new.scopes) c.as_str.result.now (length f.statics) c.in_ok-allowed.allowed c.is_twice-is_twice.result
    c.as_str.ensures refl c.in_ok-allowed.ensures.declared c.in_ok-allowed.ensures.allowed c.is_twice-is_twice.ensures
    c.in_err-first_values.field-0.0 c.in_err-first_values.ensures in
    search (rules, h)

pub returns-then-not-allowed : goal.returns-then-not-allowed
returns-then-not-allowed c =
    let f = file_of c.args.self.now in
    let allowed = c.in_ok-allowed.allowed in
    let twice = c.is_twice-is_twice.result in
    let broken : (not allowed || twice) ≡ true = elim c.then-not-allowed.branch [
      | then-not-allowed-via-then-not-allowed w ↦ not_allowed allowed twice w.if-not-allowed.true
      | then-not-allowed-via-else-not-allowed+then-is_twice w ↦ allowed_twice allowed twice w.if-not-allowed.false w.if-is_twice.true
    ] in
    redeclared_refused f (item_of c.args.item.now) (declares.Function c.args.function) (scope_of c.declare_function.new.scopes) c.as_str.result.now (length f.statics) allowed twice
    c.as_str.ensures refl c.in_ok-allowed.ensures.declared c.in_ok-allowed.ensures.allowed c.is_twice-is_twice.ensures
    (starts_of c.in_ok-first_values.field-0.value) c.in_ok-first_values.ensures c.redeclared.result broken c.redeclared.ensures

pub returns-then-is_some : goal.returns-then-is_some
returns-then-is_some c =
    let f = file_of c.args.self.now in
    let allowed = c.in_ok-allowed.allowed in
    let twice = c.is_twice-is_twice.result in
    declared_refused f (item_of c.args.item.now) (declares.Function c.args.function) (scope_of c.declare_function.new.scopes) c.as_str.result.now (length f.statics) allowed twice
    c.as_str.ensures refl c.in_ok-allowed.ensures.declared c.in_ok-allowed.ensures.allowed c.is_twice-is_twice.ensures
    (starts_of c.in_ok-first_values.field-0.value) c.in_ok-first_values.ensures c.mismatch.result (allowed_once allowed twice c.if-not-allowed.false c.if-is_twice.false)
    (breaks_mismatch _ _ _ _ (initial_given c.args.item.now.init c.is_some.result c.is_some.ensures ∙ c.if-is_some.true) c.mismatch.ensures)

pub returns : goal.returns
returns c =
    let f = file_of c.args.self.now in
    let allowed = c.in_ok-allowed.allowed in
    let twice = c.is_twice-is_twice.result in
    declared_item f (item_of c.args.item.now) (declares.Function c.args.function) (scope_of c.declare_function.new.scopes) c.as_str.result.now (length f.statics) allowed twice
    c.as_str.ensures refl c.in_ok-allowed.ensures.declared c.in_ok-allowed.ensures.allowed c.is_twice-is_twice.ensures
    (starts_of c.in_ok-first_values.field-0.value) c.in_ok-first_values.ensures (allowed_once allowed twice c.if-not-allowed.false c.if-is_twice.false)
    ∙ ap (λ b. breaks b Mismatch c.args.item.now.at (Is (file_of (record { scopes = c.declare_function.new.scopes; statics = c.args.self.now.statics; functions = c.args.self.now.functions })))) (initial_given c.args.item.now.init c.is_some.result c.is_some.ensures ∙ c.if-is_some.false)
