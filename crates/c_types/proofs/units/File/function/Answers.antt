use Rattle.std.proofs.Common.{◌≡◌, ◌∙◌, ◌||◌, not, true, nat_lt, length, ap, map, subst, sym, rules}
use Rattle.std.proofs.lemmas.List.{length-map}
use Rattle.c_syntax.specs.SyntaxView.{function_syntax_of, parameter_of}
use Rattle.c_limits.specs.FunctionView.{typed_function_of}
use Rattle.c_rules.specs.Answers.{Refuses}
use Rattle.c_rules.specs.declared.local.Naming.TheVariants.{Needed}
use Rattle.c_rules.specs.declared.meaning.FunctionType.{FunctionType}
use Rattle.c_rules.specs.Declarations.{parameters}
use Rattle.c_rules.specs.Kinds.{starred}
use Rattle.c_rules.specs.Outcome.{Is}
use Rattle.c_rules.specs.Scopes.{open_scope}
use Rattle.c_rules.specs.Typing.{bodies_before}
use Rattle.c_rules.specs.Units.{File, file_function, with_body}
use Rattle.c_scopes.specs.Tables.{scope_of}
use Rattle.c_scopes.proofs.ScopesKept.{innermost}
use Rattle.c_types.specs.View.{file_of}
use Rattle.c_types.proofs.FunctionLemmas.{body_refused, function_twice, function_typed}
use Rattle.c_types.proofs.UnitLemmas.{not_allowed, allowed_twice, allowed_once}
use Rattle.c_types.proofs.units.File.function.Goals.{then-not-allowed-via-then-not-allowed, then-not-allowed-via-else-not-allowed+then-is_defined}
use Rattle.c_types.proofs.units.File.function.Goals as goal

pub returns-in_err-body : goal.returns-in_err-body
returns-in_err-body c =
    let file = file_of c.args.self.now in
    let f = function_syntax_of c.args.f.now in
    let kinds = c.in_ok-kinds.kinds.items in
    let type : FunctionType = record { result = c.starred-result.result; parameters = c.new.result } in
    let behind : File = record { scope = scope_of c.declare_function.new.scopes; statics = file.statics; functions = file.functions } in
    let listed : parameters (open_scope file.scope) Needed f.parameters.list ≡ Is kinds =
    ap (λ l. parameters (open_scope file.scope) Needed (map parameter_of l)) (sym c.as_slice-list.ensures) ∙ c.in_ok-kinds.ensures.follows in
    let copied : c.new.result ≡ kinds = c.new.ensures ∙ c.in_ok-parameters.ensures ∙ c.deref.ensures.value in
    let typed : type ≡ record { result = starred c.in_ok-base.base f.stars; parameters = kinds } = λ i. record { result = c.starred-result.ensures i; parameters = copied i } in
    let h : Refuses (file_function file f) c.in_err-body.field-0.0 =
    body_refused file f c.in_ok-base.base kinds type (scope_of c.declare_function.new.scopes) (scope_of c.defined_parameters.new.scopes) c.as_str-name.result.now
    c.in_ok-base.ensures listed typed (ap innermost c.in_ok-kinds.ensures.kept) c.as_str-name.ensures c.in_ok-allowed.ensures.declared
    c.in_err-body.field-0.0 (subst (λ ks. Refuses (with_body behind f c.starred-result.result ks) c.in_err-body.field-0.0) (c.deref-2.ensures.value ∙ sym copied) c.in_err-body.ensures) in
    search (rules, h)

pub returns-then-not-allowed : goal.returns-then-not-allowed
returns-then-not-allowed c =
    let file = file_of c.args.self.now in
    let f = function_syntax_of c.args.f.now in
    let kinds = c.in_ok-kinds.kinds.items in
    let type : FunctionType = record { result = c.starred-result.result; parameters = c.new.result } in
    let behind : File = record { scope = scope_of c.declare_function.new.scopes; statics = file.statics; functions = file.functions } in
    let listed : parameters (open_scope file.scope) Needed f.parameters.list ≡ Is kinds =
    ap (λ l. parameters (open_scope file.scope) Needed (map parameter_of l)) (sym c.as_slice-list.ensures) ∙ c.in_ok-kinds.ensures.follows in
    let copied : c.new.result ≡ kinds = c.new.ensures ∙ c.in_ok-parameters.ensures ∙ c.deref.ensures.value in
    let typed : type ≡ record { result = starred c.in_ok-base.base f.stars; parameters = kinds } = λ i. record { result = c.starred-result.ensures i; parameters = copied i } in
    let allowed = c.in_ok-allowed.allowed in
    let is_defined = c.has_body-is_defined.result in
    let counted : c.len.result ≡ length file.functions = c.len.ensures ∙ c.args.self.now.functions.ok.0 ∙ sym (length-map c.args.self.now.functions.items typed_function_of) in
    let again : is_defined ≡ nat_lt (bodies_before (scope_of c.declare_function.new.scopes) c.as_str-name.result.now) (length file.functions) =
    c.has_body-is_defined.ensures ∙ ap (nat_lt (bodies_before (scope_of c.declare_function.new.scopes) c.as_str-name.result.now)) counted in
    let given : with_body behind f type.result type.parameters ≡ Is (file_of c.body.new.self) =
    ap (with_body behind f c.starred-result.result) (copied ∙ sym c.deref-2.ensures.value) ∙ c.in_ok-body.ensures in
    let broken : (not allowed || is_defined) ≡ true = elim c.then-not-allowed.branch [
      | then-not-allowed-via-then-not-allowed w ↦ not_allowed allowed is_defined w.if-not-allowed.true
      | then-not-allowed-via-else-not-allowed+then-is_defined w ↦ allowed_twice allowed is_defined w.if-not-allowed.false w.if-is_defined.true
    ] in
    function_twice file f c.in_ok-base.base kinds type (scope_of c.declare_function.new.scopes) (scope_of c.defined_parameters.new.scopes) c.as_str-name.result.now
    c.in_ok-base.ensures listed typed (ap innermost c.in_ok-kinds.ensures.kept) c.as_str-name.ensures c.in_ok-allowed.ensures.declared
    (file_of c.body.new.self) allowed is_defined given c.in_ok-allowed.ensures.allowed again c.redeclared.result broken c.redeclared.ensures

pub returns : goal.returns
returns c =
    let file = file_of c.args.self.now in
    let f = function_syntax_of c.args.f.now in
    let kinds = c.in_ok-kinds.kinds.items in
    let type : FunctionType = record { result = c.starred-result.result; parameters = c.new.result } in
    let behind : File = record { scope = scope_of c.declare_function.new.scopes; statics = file.statics; functions = file.functions } in
    let listed : parameters (open_scope file.scope) Needed f.parameters.list ≡ Is kinds =
    ap (λ l. parameters (open_scope file.scope) Needed (map parameter_of l)) (sym c.as_slice-list.ensures) ∙ c.in_ok-kinds.ensures.follows in
    let copied : c.new.result ≡ kinds = c.new.ensures ∙ c.in_ok-parameters.ensures ∙ c.deref.ensures.value in
    let typed : type ≡ record { result = starred c.in_ok-base.base f.stars; parameters = kinds } = λ i. record { result = c.starred-result.ensures i; parameters = copied i } in
    let allowed = c.in_ok-allowed.allowed in
    let is_defined = c.has_body-is_defined.result in
    let counted : c.len.result ≡ length file.functions = c.len.ensures ∙ c.args.self.now.functions.ok.0 ∙ sym (length-map c.args.self.now.functions.items typed_function_of) in
    let again : is_defined ≡ nat_lt (bodies_before (scope_of c.declare_function.new.scopes) c.as_str-name.result.now) (length file.functions) =
    c.has_body-is_defined.ensures ∙ ap (nat_lt (bodies_before (scope_of c.declare_function.new.scopes) c.as_str-name.result.now)) counted in
    let given : with_body behind f type.result type.parameters ≡ Is (file_of c.body.new.self) =
    ap (with_body behind f c.starred-result.result) (copied ∙ sym c.deref-2.ensures.value) ∙ c.in_ok-body.ensures in
    function_typed file f c.in_ok-base.base kinds type (scope_of c.declare_function.new.scopes) (scope_of c.defined_parameters.new.scopes) c.as_str-name.result.now
    c.in_ok-base.ensures listed typed (ap innermost c.in_ok-kinds.ensures.kept) c.as_str-name.ensures c.in_ok-allowed.ensures.declared
    (file_of c.body.new.self) allowed is_defined given c.in_ok-allowed.ensures.allowed again (allowed_once allowed is_defined c.if-not-allowed.false c.if-is_defined.false)
