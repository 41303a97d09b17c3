-- A function with its body, by what is found of it in turn.
use Rattle.std.proofs.Common.{◌≡◌, ℕ, ◌&&◌, ◌||◌, not, nat_lt, Bool, true, false, if◌then◌else◌, is_none, List, length, refl, ap, sym, subst, ◌∙◌}
use Rattle.c_tree.specs.declared.program.Base.{Base}
use Rattle.c_tree.specs.declared.program.ScalarType.{ScalarType}
use Rattle.c_syntax.specs.SyntaxTree.{FunctionSyntax}
use Rattle.c_rules.specs.declared.fault.Rule.TheVariants.{Redeclared}
use Rattle.c_rules.specs.declared.fault.Refusal.{Refusal}
use Rattle.c_rules.specs.declared.fault.Refusal.TheVariants as refusals
use Rattle.c_rules.specs.declared.local.Naming.TheVariants.{Needed}
use Rattle.c_rules.specs.declared.meaning.Declared.TheVariants as declares
use Rattle.c_rules.specs.declared.meaning.FunctionType.{FunctionType}
use Rattle.c_rules.specs.declared.meaning.Meaning.TheVariants as meanings
use Rattle.c_rules.specs.Answers.{Refuses}
use Rattle.c_rules.specs.Declarations.{parameters}
use Rattle.c_rules.specs.Kinds.{starred}
use Rattle.c_rules.specs.Outcome.{Outcome, Is, Broken, ◌>>=◌, breaks}
use Rattle.c_rules.specs.Scopes.{Scope, declare, open_scope}
use Rattle.c_rules.specs.Typing.{spelled, bodies_before}
use Rattle.c_rules.specs.Units.{File, function_as, file_function, is_defined, may_declare, with_body, with_declared}

either_bodies : (b : Bool) (s t : Scope) → s.bodies ≡ t.bodies → (if b then s else t).bodies ≡ t.bodies
either_bodies true s t same = same
either_bodies false s t same = refl

-- a function of this type in the scope that its name is declared in
module _ (file : File) (f : FunctionSyntax) (b : Base) (kinds : List ScalarType) (type : FunctionType) (s t : Scope) (name : List ℕ)
    (based : spelled f.specs ≡ Is b) (listed : parameters (open_scope file.scope) Needed f.parameters.list ≡ Is kinds)
    (typed : type ≡ record { result = starred b f.stars; parameters = kinds }) (kept : t ≡ file.scope) (named : name ≡ f.name)
    (declared : s ≡ with_declared t name 0 (declares.Function type)) where
  abbrev behind : File
  behind = record { scope = s; statics = file.statics; functions = file.functions }

  abbrev rest : File → Outcome File
  rest g = breaks (not (may_declare file.scope f.name (declares.Function type)) || is_defined file f.name) Redeclared f.at (Is g)

  behind_is : s ≡ with_declared file.scope f.name 0 (declares.Function type)
  behind_is = declared ∙ (λ i. with_declared (kept i) (named i) 0 (declares.Function type))

  bodies_kept : s.bodies ≡ file.scope.bodies
  bodies_kept = ap (λ u. u.bodies) behind_is
      ∙ either_bodies (may_declare file.scope f.name (declares.Function type) && is_none (file.scope.meaning f.name)) (declare file.scope f.name (meanings.Function type)) file.scope refl

  function_is : file_function file f ≡ (with_body behind f type.result type.parameters >>= rest)
  function_is =
      ap (λ o. o >>= λ c. parameters (open_scope file.scope) Needed f.parameters.list >>= λ ks. function_as file f (record { result = starred c f.stars; parameters = ks })) based
      ∙ ap (λ o. o >>= λ ks. function_as file f (record { result = starred b f.stars; parameters = ks })) listed
      ∙ ap (function_as file f) (sym typed)
      ∙ ap (λ u. with_body (record { scope = u; statics = file.statics; functions = file.functions }) f type.result type.parameters >>= rest) (sym behind_is)

  pub body_refused : (r : Refusal) → Refuses (with_body behind f type.result type.parameters) r → Refuses (file_function file f) r
  body_refused refusals.NoMemory h = tt {0}
  body_refused (refusals.Broken rule at) h = function_is ∙ ap (λ o. o >>= rest) h

  module _ (g : File) (allowed is_twice : Bool) (given : with_body behind f type.result type.parameters ≡ Is g)
      (may : allowed ≡ may_declare t name (declares.Function type)) (again : is_twice ≡ nat_lt (bodies_before s name) (length file.functions)) where
    broken_is : (not allowed || is_twice) ≡ (not (may_declare file.scope f.name (declares.Function type)) || is_defined file f.name)
    broken_is = λ i.
        not ((may ∙ (λ j. may_declare (kept j) (named j) (declares.Function type))) i)
        || (again ∙ (λ j. nat_lt (bodies_before (record { meaning = s.meaning; here = s.here; bodies = bodies_kept j }) (named j)) (length file.functions))) i

    behind_body : (broken : Bool) → (not allowed || is_twice) ≡ broken → file_function file f ≡ breaks broken Redeclared f.at (Is g)
    behind_body broken is = function_is ∙ ap (λ o. o >>= rest) given ∙ ap (λ x. breaks x Redeclared f.at (Is g)) (sym broken_is ∙ is)

    pub function_twice : (r : Refusal) → (not allowed || is_twice) ≡ true → r ≡ refusals.Broken Redeclared f.at → Refuses (file_function file f) r
    function_twice r is refuses = subst (Refuses (file_function file f)) (sym refuses) (behind_body true is)

    pub function_typed : (not allowed || is_twice) ≡ false → file_function file f ≡ Is g
    function_typed is = behind_body false is
