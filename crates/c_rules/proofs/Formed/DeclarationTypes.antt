-- The types of what declarators and parameters declare.
use Rattle.std.proofs.Common.{◌≡◌, ◌≤◌, ℕ, zero, suc, ◌||◌, false, true, Bool, if◌then◌else◌, is_some, nat_lt, List, [], ◌∷◌, length, Option, Some, None}
use Rattle.std.proofs.Common.{refl, subst, true≢false, arith, ltb-false}
use Rattle.std.specs.Prelude.{⊤, All, ◌==◌}
use Rattle.std.proofs.lemmas.List.Elements.{All-nil, All-cons}
use Rattle.c_tree.specs.declared.program.Base.{Base}
use Rattle.c_tree.specs.declared.program.Base.TheVariants as base
use Rattle.c_tree.specs.declared.program.ScalarType.{ScalarType}
use Rattle.c_tree.specs.declared.program.VarRef.TheVariants as refs
use Rattle.c_tree.specs.c_syntax.SyntaxTree as tree
use Rattle.c_tree.specs.c_syntax.SyntaxTree.{Expression, ParameterTree, ParametersTree, ItemForm, InitialTree}
use Rattle.c_tree.specs.TypedTree.{Kind}
use Rattle.c_rules.specs.declared.meaning.Declared.{Declared}
use Rattle.c_rules.specs.declared.meaning.Declared.TheVariants as declares
use Rattle.c_rules.specs.declared.local.Naming.{Naming}
use Rattle.c_rules.specs.declared.local.Naming.TheVariants.{Free}
use Rattle.c_rules.specs.Kinds.{starred}
use Rattle.c_rules.specs.Operands.{address_kind}
use Rattle.c_rules.specs.Programs.{cell_kind, cell_count}
use Rattle.c_rules.specs.Scopes.{Scope, open_scope}
use Rattle.c_rules.specs.Typing.{plain, constant_typing, word_at}
use Rattle.c_rules.specs.Declarations.{length_within, typed_length, listed_length, single, array, prototype, declarator}
use Rattle.c_rules.specs.Declarations.{parameter_kind, is_bad_length, is_name_taken, lacks_name, parameter, with_single, parameters}
use Rattle.c_tree.specs.Kinds.{IsScalarType, IsKind}
use Rattle.c_rules.proofs.Formed.OperandKinds.{starred_is_kind}
use Rattle.c_rules.proofs.Formed.Context.{Gives, is, behind, unless, there}
use Rattle.c_rules.proofs.Formed.GivesLemmas.{anything}
use Rattle.c_tree.specs.declared.limits.TheConstants.{MOST_CELLS}

pub record IsObjectType (count : ℕ) (kind : ScalarType) : Type 0 where
  pub is_type : IsScalarType kind
  pub from_one : 1 ≤ count
  pub most : count ≤ MOST_CELLS

abbrev pub IsDeclaredType : Declared → Type 0
IsDeclaredType declares.Untyped = ⊤
IsDeclaredType (declares.Object type) = IsObjectType (cell_count type) (cell_kind type)
IsDeclaredType (declares.Function type) = IsKind type.result × All IsScalarType type.parameters

pointed_type : (b : Base) (stars : ℕ) → IsKind (address_kind (starred b stars))
pointed_type base.Void zero = tt
pointed_type base.Void (suc stars) = omega arith
pointed_type base.Int stars = tt
pointed_type base.Unsigned stars = tt

-- lengths
abbrev IsLength : Option ℕ → Type 0
IsLength None = ⊤
IsLength (Some n) = (1 ≤ n) × (n ≤ MOST_CELLS)

above_zero : (n : ℕ) → (n == 0) ≡ false → 1 ≤ n
above_zero zero some = absurd (true≢false some)
above_zero (suc n) some = omega arith

length_as : (none over : Bool) (n : ℕ) → (none ≡ false → 1 ≤ n) → (over ≡ false → n ≤ MOST_CELLS) → IsLength (if none || over then None else Some n)
length_as true over n low high = tt
length_as false true n low high = tt
length_as false false n low high = (low refl, high refl)

length_in : (n : ℕ) → IsLength (length_within n)
length_in n = length_as (n == 0) (nat_lt MOST_CELLS n) n (above_zero n) (ltb-false MOST_CELLS n)

length_typed : (s : Scope) (e : Expression) → Gives IsLength (typed_length s e)
length_typed s e =
    behind (constant_typing s e) _ (anything _) λ x constant.
    behind (word_at e x) _ (anything _) λ w word. is (length_within w) (length_in w)

length_listed : (i : Option InitialTree) → IsLength (listed_length i)
length_listed None = tt
length_listed (Some (tree.One e)) = tt
length_listed (Some (tree.Braced es at)) = length_in (length es)

-- what is declared
single_type : (kind : Kind) → IsKind kind → IsDeclaredType (single kind)
single_type None type = tt
single_type (Some kind) type = record { is_type = type; from_one = omega arith; most = omega arith }

array_type : (kind : Kind) (n : Option ℕ) → IsKind kind → IsLength n → IsDeclaredType (array kind n)
array_type None None type long = tt
array_type None (Some n) type long = tt
array_type (Some kind) None type long = tt
array_type (Some kind) (Some n) type long = record { is_type = type; from_one = long.0; most = long.1 }

-- parameters
parameter_as : (pointer : Bool) (b : Base) (stars : ℕ) → IsKind (if pointer then address_kind (starred b stars) else starred b stars)
parameter_as true b stars = pointed_type b stars
parameter_as false b stars = starred_is_kind b stars

kind_there : (kind : Kind) → IsKind kind → (type : ScalarType) → kind ≡ Some type → IsScalarType type
kind_there kind is_kind type same = subst IsKind same is_kind

parameter_type : (s : Scope) (naming : Naming) (p : ParameterTree) → Gives IsScalarType (parameter s naming p)
parameter_type s naming p =
    behind (plain p.specs) _ (anything _) λ b base.
    behind (is_bad_length s p.array) _ (anything _) λ bad length.
    unless (is_name_taken s p.name) _ _ _ λ free.
    unless (bad || lacks_name naming p.name) _ _ _ λ named.
    there _ _ (parameter_kind b p) (kind_there (parameter_kind b p) (parameter_as (is_some p.array) b p.stars))

pub parameter_types : (s : Scope) (naming : Naming) (ps : List ParameterTree) → Gives (All IsScalarType) (parameters s naming ps)
parameter_types s naming [] = is [] (All-nil IsScalarType)
parameter_types s naming (p ∷ ps) =
    behind (parameter s naming p) _ (parameter_type s naming p) λ kind first.
    behind (parameters (with_single s p.name (refs.Local 0) kind) naming ps) _ (parameter_types (with_single s p.name (refs.Local 0) kind) naming ps) λ kinds rest.
    is (kind ∷ kinds) (All-cons IsScalarType kind kinds first rest)

prototype_type : (s : Scope) (result : Kind) (ps : ParametersTree) → IsKind result → Gives IsDeclaredType (prototype s result ps)
prototype_type s result ps type =
    behind (parameters (open_scope s) Free ps.list) _ (parameter_types (open_scope s) Free ps.list) λ kinds types.
    is (declares.Function (record { result = result; parameters = kinds })) (type, types)

pub declared_type : (s : Scope) (b : Base) (form : ItemForm) (stars : ℕ) (i : Option InitialTree) → Gives IsDeclaredType (declarator s b form stars i)
declared_type s b tree.Plain stars i = is (single (starred b stars)) (single_type (starred b stars) (starred_is_kind b stars))
declared_type s b (tree.Array None) stars i =
    is (array (starred b stars) (listed_length i)) (array_type (starred b stars) (listed_length i) (starred_is_kind b stars) (length_listed i))
declared_type s b (tree.Array (Some e)) stars i =
    behind (typed_length s e) _ (length_typed s e) λ n long. is (array (starred b stars) n) (array_type (starred b stars) n (starred_is_kind b stars) long)
declared_type s b (tree.Parameters ps) stars i = prototype_type s (starred b stars) ps (starred_is_kind b stars)
