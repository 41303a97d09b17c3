-- A name that may be declared at file scope stands for nothing yet, or for what it is declared as.
use Rattle.std.proofs.Common.{◌≡◌, ℕ, true, not, ◌||◌, if◌then◌else◌, is_none, List, Option, Some, None, sym, refl, ap, ◌∙◌, subst, inl, inr}
use Rattle.std.specs.Prelude.{All}
use Rattle.std.proofs.lemmas.List.Elements.{All-weaker}
use Rattle.std.proofs.lemmas.Bool.{and_parts, and_from, and_right}
use Rattle.c_tree.specs.c_syntax.SyntaxTree.{UnitTree}
use Rattle.c_tree.specs.declared.program.VarRef.TheVariants as refs
use Rattle.c_rules.specs.declared.meaning.Declared.{Declared}
use Rattle.c_rules.specs.declared.meaning.Declared.TheVariants as declares
use Rattle.c_rules.specs.declared.meaning.Meaning.{Meaning}
use Rattle.c_rules.specs.declared.meaning.Meaning.TheVariants as meanings
use Rattle.c_rules.specs.declared.meaning.FunctionType.{FunctionType}
use Rattle.c_rules.specs.declared.meaning.ObjectType.{ObjectType}
use Rattle.c_rules.specs.Scopes.{Scope, declare, is_in, is_out}
use Rattle.c_rules.specs.Units.{StaticTree, File, agrees, may_declare, meaning_of, with_meaning, with_declared}
use Rattle.c_tree.specs.Kinds.{IsScalarType, IsKind}
use Rattle.c_rules.proofs.Formed.SameTypes.{one_object, one_function}
use Rattle.c_rules.proofs.Formed.FileSoFar.{Stands, IsStaticIn, IsFileSoFar, grows_by_name, declared_or_old, declared_there, with_names, with_more, static_kept}

-- the scope behind a name that may be declared: the same, or with the name
module _ (s : Scope) (name : List ℕ) (d : Declared) (may : may_declare s name d ≡ true) where
  pub agreed : (m : Option Meaning) → s.meaning name ≡ m → agrees m d ≡ true
  agreed m is = ap (λ o. agrees o d) (sym is) ∙ (and_parts (not (is_in name || is_out name)) (agrees (s.meaning name) d) may).1

  pub same_scope_for : (n : ℕ) (m : Meaning) → s.meaning name ≡ Some m → with_declared s name n d ≡ s
  same_scope_for n m is =
      ap (λ b. if b then with_meaning s name (meaning_of n d) else s) (and_right (may_declare s name d) (is_none (s.meaning name)) (ap is_none is))

  pub scope_with_name : (n : ℕ) → s.meaning name ≡ None → with_declared s name n d ≡ with_meaning s name (meaning_of n d)
  scope_with_name n is =
      ap (λ b. if b then with_meaning s name (meaning_of n d) else s) (and_from (may_declare s name d) (is_none (s.meaning name)) may (ap is_none is))

pub object_again : (statics : List StaticTree) (m : Meaning) (type : ObjectType) → agrees (Some m) (declares.Object type) ≡ true → Stands statics m
    → (v : ℕ) × (m ≡ meanings.Object (refs.Static v) type)
object_again statics (meanings.Object (refs.Scalar n) a) type same stands = absurd stands
object_again statics (meanings.Object (refs.Local n) a) type same stands = absurd stands
object_again statics (meanings.Object (refs.Static n) a) type same stands = (n, ap (meanings.Object (refs.Static n)) (one_object a type same))
object_again statics (meanings.Function a) type same stands = absurd (cc same)

function_again : (m : Meaning) (type : FunctionType) → agrees (Some m) (declares.Function type) ≡ true → m ≡ meanings.Function type
function_again (meanings.Object r a) type same = absurd (cc same)
function_again (meanings.Function a) type same = ap meanings.Function (one_function a type same)

-- a function that is declared
module _ (rest : UnitTree) (file : File) (known : IsFileSoFar rest file) (name : List ℕ) (type : FunctionType) where
  abbrev IsKnown : Scope → Type 0
  IsKnown t = IsFileSoFar rest (with_names file t file.statics) × (t.meaning name ≡ Some (meanings.Function type))

  module _ (result : IsKind type.result) (parameters : All IsScalarType type.parameters) where
    function_stands : (n : List ℕ) (m : Meaning) → (declare file.scope name (meanings.Function type)).meaning n ≡ Some m → Stands file.statics m
    function_stands n m there = elim (declared_or_old file.scope name (meanings.Function type) n m there) [
      | inl new ↦ subst (Stands file.statics) new (result, parameters)
      | inr old ↦ known.names n m old
    ]

    new_function : file.scope.meaning name ≡ None → IsKnown (declare file.scope name (meanings.Function type))
    new_function none =
        let t = declare file.scope name (meanings.Function type) in
        let grows = grows_by_name file.scope name (meanings.Function type) none in
        let objects = All-weaker (IsStaticIn file.scope) (IsStaticIn t) (static_kept file.scope t grows) file.statics known.statics
        in (with_more rest file t file.statics known grows function_stands objects, declared_there file.scope name (meanings.Function type))

    module _ (number : ℕ) (may : may_declare file.scope name (declares.Function type) ≡ true) where
      function_known : (o : Option Meaning) → file.scope.meaning name ≡ o → IsKnown (with_declared file.scope name number (declares.Function type))
      function_known None is = subst IsKnown (sym (scope_with_name file.scope name (declares.Function type) may number is)) (new_function is)
      function_known (Some m) is =
          let same : m ≡ meanings.Function type = function_again m type (agreed file.scope name (declares.Function type) may (Some m) is) in
          subst IsKnown (sym (same_scope_for file.scope name (declares.Function type) may number m is)) (known, is ∙ ap Some same)

      pub function_declared : IsKnown (with_declared file.scope name number (declares.Function type))
      function_declared = function_known (file.scope.meaning name) refl
