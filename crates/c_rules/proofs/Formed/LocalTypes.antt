-- What the names in a block stand for, and what gives its objects their first values.
use Rattle.std.proofs.Common.{◌≡◌, ◌≤◌, ℕ, ◌+◌, false, true, Bool, if◌then◌else◌, List, [], ◌∷◌, ◌++◌, length, Option, Some, None, refl, subst, zero-le}
use Rattle.std.specs.Prelude.{⊤, All}
use Rattle.std.specs.Str.{bytes_eq}
use Rattle.std.proofs.lemmas.List.Elements.{All-nil, All-cons}
use Rattle.c_tree.specs.declared.program.ScalarType.{ScalarType}
use Rattle.c_tree.specs.declared.program.VarRef.{VarRef}
use Rattle.c_tree.specs.declared.program.VarRef.TheVariants as refs
use Rattle.c_tree.specs.c_syntax.SyntaxTree as tree
use Rattle.c_tree.specs.c_syntax.SyntaxTree.{Expression, InitialTree}
use Rattle.c_tree.specs.TypedTree.{Kind, Expr, Node, Assign, Named, Do_expr, Fill}
use Rattle.c_tree.specs.Eval.{kind_of}
use Rattle.c_rules.specs.declared.meaning.Declared.TheVariants as declares
use Rattle.c_tree.specs.declared.enclosing.Enclosing.{Enclosing}
use Rattle.c_rules.specs.declared.meaning.Meaning.{Meaning}
use Rattle.c_rules.specs.declared.meaning.Meaning.TheVariants as meanings
use Rattle.c_rules.specs.declared.meaning.ObjectType.{ObjectType}
use Rattle.c_rules.specs.declared.meaning.ObjectType.TheVariants.{Single, Array}
use Rattle.c_rules.specs.Operands.{given}
use Rattle.c_rules.specs.Programs.{cell_kind, cell_count, is_single}
use Rattle.c_rules.specs.Scopes.{Scope, declare, is_taken}
use Rattle.c_rules.specs.Typing.{typing, bodies_before}
use Rattle.c_rules.specs.Declarations.{entries, array_list}
use Rattle.c_rules.specs.Statements.{LocalTree, Initialiser, Absent, Value, Listed, Misbraced, all_typed, initialiser, ObjectStart, started, with_named_object}
use Rattle.c_tree.specs.Kinds.{IsScalarType}
use Rattle.c_tree.specs.WellFormed.{Shape, Names, IsWellTyped, IsInitial, IsFilled, IsWellFormed}
use Rattle.c_rules.proofs.Formed.Context.{Gives, is, broken, behind, shape_of, IsMeaning, Fits, static_in}
use Rattle.c_rules.proofs.Formed.OpenedNames.{Knows, there_is}
use Rattle.c_rules.proofs.Formed.ExpressionTypes.{IsEntry, typed_expression, typed_entries, given_value, typed_list}
use Rattle.c_rules.proofs.Formed.GivesLemmas.{anything}
use Rattle.c_rules.proofs.PlaceLemmas.{place_kept, place_last}

all_one : {A : Type 0} (P : A → Type 0) (x : A) → P x → All P (x ∷ [])
all_one P x holds = All-cons P x [] holds (All-nil P)

-- objects that were numbered before others
pub knows_first : (names : Names) (first : ℕ) (ls others : List LocalTree) → Knows names first (ls ++ others) → Knows names first ls
knows_first names first ls others knows = record {
  object = λ k l there. knows.object k l (place_kept ls others k l there);
  filled = λ k l there. knows.filled k l (place_kept ls others k l there);
}

-- an object of this type, which may be filled with a list where it is an array
pub record IsHeld (names : Names) (n : ℕ) (type : ObjectType) : Type 0 where
  pub object : names.object (refs.Local n) ≡ Some (shape_of type)
  pub filled : is_single type ≡ false → names.is_filled n ≡ true

pub held_last : (names : Names) (first : ℕ) (ls : List LocalTree) (l : LocalTree) → Knows names first (ls ++ l ∷ []) → IsHeld names (first + length ls) l.object_type
held_last names first ls l knows = record {
  object = knows.object (length ls) l (place_last ls l);
  filled = knows.filled (length ls) l (place_last ls l);
}

-- one more name
module _ (names : Names) (n : ℕ) (m : Meaning) (old : Option Meaning) where
  meaning_as : (b : Bool) (new : Meaning) → IsMeaning names n new → ((m : Meaning) → old ≡ Some m → IsMeaning names n m)
      → (if b then Some new else old) ≡ Some m → IsMeaning names n m
  meaning_as true new one others there = let same : new ≡ m = cc there in subst (IsMeaning names n) same one
  meaning_as false new one others there = others m there

fits_declared : (names : Names) (s : Scope) (name : List ℕ) (new : Meaning) → ((n : List ℕ) → IsMeaning names (bodies_before s n) new) → Fits names s
    → Fits names (declare s name new)
fits_declared names s name new one fits = λ n m there. meaning_as names (bodies_before s n) m (s.meaning n) (bytes_eq name n) new (one n) (fits n) there

fits_either : (names : Names) (s t : Scope) (b : Bool) → Fits names s → Fits names t → Fits names (if b then s else t)
fits_either names s t true first second = first
fits_either names s t false first second = second

pub fits_with_object : (names : Names) (s : Scope) (name : List ℕ) (n : ℕ) (type : ObjectType) → IsScalarType (cell_kind type) → IsHeld names n type
    → Fits names s → Fits names (with_named_object s name (refs.Local n) (declares.Object type))
fits_with_object names s name n type is_type held fits =
    let m : Meaning = meanings.Object (refs.Local n) type in
    fits_either names s (declare s name m) (is_taken s name) fits (fits_declared names s name m (λ k. (held.object, is_type, tt {0})) fits)

-- initialisers
abbrev pub IsInitialiser : Names → Initialiser → Type 0
IsInitialiser names Absent = ⊤
IsInitialiser names (Value x) = IsWellTyped names x.value
IsInitialiser names (Listed es) = All (IsEntry names) es
IsInitialiser names Misbraced = ⊤

module _ (names : Names) (s : Scope) (fits : Fits names s) where
  braced : (es : List Expression) → Gives (IsInitialiser names) (all_typed s es)
  braced [] = is Misbraced tt
  braced (e ∷ es) = behind (typing s e) _ (anything _) λ x typed. braced es

  pub typed_initialiser : (array : Bool) (i : Option InitialTree) → Gives (IsInitialiser names) (initialiser s array i)
  typed_initialiser array None = is Absent tt
  typed_initialiser array (Some (tree.One e)) = behind (typing s e) _ (typed_expression names s fits e) λ x typed. is _ typed
  typed_initialiser true (Some (tree.Braced es at)) = behind (entries s es) _ (typed_entries names s fits es) λ xs typed. is (Listed xs) typed
  typed_initialiser false (Some (tree.Braced es at)) = braced es

-- the start of an object
pub record IsStart (names : Names) (type : ObjectType) (start : ObjectStart) : Type 0 where
  pub within : length start.values ≤ cell_count type
  pub starts : All (IsInitial (static_in names) (cell_kind type)) start.values
  pub statements : (objects : VarRef → Option Shape) (result : Kind) (c : Enclosing) → All (IsWellFormed objects result names c) start.statements

module _ (names : Names) (n : ℕ) (at : ℕ) where
  abbrev assignment : ScalarType → Expr → Expr
  assignment kind v = Node (Assign (Named (refs.Local n) at) v) (Some kind) at

  assigned : (kind : ScalarType) (v : Expr) → IsScalarType kind → IsHeld names n (Single kind) → IsWellTyped names v × (kind_of v ≡ Some kind)
      → IsWellTyped names (assignment kind v)
  assigned kind v is_type held typed = (is_type, (held.object, typed.0, typed.1))

  filled : (type : ObjectType) → IsHeld names n type → is_single type ≡ false → IsFilled names n
  filled type held array = record { lives = there_is names.object (refs.Local n) (shape_of type) held.object; filled = held.filled array }

  pub typed_start : (type : ObjectType) (i : Initialiser) → IsScalarType (cell_kind type) → IsHeld names n type → IsInitialiser names i
      → Gives (IsStart names type) (started (refs.Local n) type at i)
  typed_start type Absent is_type held value = is _ (record { within = zero-le; starts = All-nil _; statements = λ objects result c. All-nil _ })
  typed_start (Single kind) (Value x) is_type held value =
      behind (given kind at x) _ (given_value names kind at x is_type value) λ v typed.
      is _ (record {
        within = zero-le;
        starts = All-nil _;
        statements = λ objects result c. all_one (IsWellFormed objects result names c) (Do_expr (assignment kind v)) (assigned kind v is_type held typed);
      })
  typed_start (Single kind) (Listed es) is_type held value = broken _ at
  typed_start (Single kind) Misbraced is_type held value = broken _ at
  typed_start (Array kind count) (Value x) is_type held value = broken _ at
  typed_start (Array kind count) (Listed es) is_type held value =
      behind (array_list kind count at es) _ (typed_list names kind count at es is_type value) λ values typed.
      is _ (record {
        within = typed.0;
        starts = typed.1;
        statements = λ objects result c. all_one (IsWellFormed objects result names c) (Fill n) (filled (Array kind count) held refl);
      })
  typed_start (Array kind count) Misbraced is_type held value = broken _ at
