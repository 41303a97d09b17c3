-- What the names in scope stand for while a body is typed, where its objects are numbered together, and what an outcome gives.
use Rattle.std.proofs.Common.{◌≡◌, ◌≤◌, ℕ, zero, suc, refl, subst, false, true, Bool, List, [], ◌∷◌, map, length, slice_get, Option, Some, None}
use Rattle.std.specs.Prelude.{⊤, All}
use Rattle.c_tree.specs.declared.program.Initial.{Initial}
use Rattle.c_tree.specs.declared.program.VarRef.{VarRef}
use Rattle.c_tree.specs.declared.program.VarRef.TheVariants as refs
use Rattle.c_rules.specs.declared.meaning.Meaning.{Meaning}
use Rattle.c_rules.specs.declared.meaning.Meaning.TheVariants as meanings
use Rattle.c_rules.specs.declared.meaning.ObjectType.{ObjectType}
use Rattle.c_rules.specs.declared.meaning.FunctionType.{FunctionType}
use Rattle.c_rules.specs.declared.fault.Rule.{Rule}
use Rattle.c_rules.specs.Outcome.{Outcome, Is, Broken, ◌>>=◌, breaks, there_or}
use Rattle.c_rules.specs.Programs.{cell_kind, cell_count, is_single}
use Rattle.c_rules.specs.Scopes.{Scope}
use Rattle.c_rules.specs.Statements.{LocalTree}
use Rattle.c_rules.specs.Typing.{bodies_before}
use Rattle.c_tree.specs.Kinds.{IsScalarType, IsKind}
use Rattle.c_tree.specs.WellFormed.{Shape, Signature, Names, IsAddressable, IsInitial}
use Rattle.c_tree.specs.declared.limits.TheConstants.{MOST_CELLS}

-- what is there where no rule is broken has this property
abbrev Of : {A : Type 0} → (A → Type 0) → Outcome A → Type 0
Of P (Is a) = P a
Of P (Broken rule at) = ⊤

pub record Gives {A : Type 0} (P : A → Type 0) (o : Outcome A) : Type 0 where
  pub holds : Of P o

pub broken : {A : Type 0} {P : A → Type 0} (rule : Rule) (at : ℕ) → Gives P (Broken rule at)
broken rule at = record { holds = tt }

pub is : {A : Type 0} {P : A → Type 0} (a : A) → P a → Gives P (Is a)
is a holds = record { holds = holds }

pub behind : {A B : Type 0} {P : A → Type 0} {Q : B → Type 0} (o : Outcome A) (next : A → Outcome B) → Gives P o → ((a : A) → P a → Gives Q (next a)) → Gives Q (o >>= next)
behind (Is a) next first rest = rest a first.holds
behind (Broken rule at) next first rest = record { holds = tt }

pub unless : {A : Type 0} {P : A → Type 0} (b : Bool) (rule : Rule) (at : ℕ) (o : Outcome A) → (b ≡ false → Gives P o) → Gives P (breaks b rule at o)
unless true rule at o rest = record { holds = tt }
unless false rule at o rest = rest refl

pub there : {A : Type 0} {P : A → Type 0} (rule : Rule) (at : ℕ) (o : Option A) → ((a : A) → o ≡ Some a → P a) → Gives P (there_or rule at o)
there rule at (Some a) rest = record { holds = rest a refl }
there rule at None rest = record { holds = tt }

-- of an outcome that is known
pub of_is : {A : Type 0} {P : A → Type 0} (o : Outcome A) (a : A) → Gives P o → o ≡ Is a → P a
of_is {A = A} {P = P} (Is b) a gives same = let equal : b ≡ a = cc same in subst P equal gives.holds
of_is (Broken rule at) a gives same = absurd (cc same)

abbrev pub shape_of : ObjectType → Shape
shape_of type = record { kind = cell_kind type; length = cell_count type }

abbrev pub signature_of : FunctionType → Signature
signature_of type = record { parameters = map Some type.parameters; result = type.result }

-- a name stands for this: an object that is there with its type, or a function, which has this type where it has a body
abbrev pub IsMeaning : Names → ℕ → Meaning → Type 0
IsMeaning names n (meanings.Object r type) = (names.object r ≡ Some (shape_of type)) × IsScalarType (cell_kind type) × IsAddressable r
IsMeaning names n (meanings.Function type) =
    ((s : Signature) → names.function n ≡ Some s → s ≡ signature_of type) × IsKind type.result × All IsScalarType type.parameters

abbrev pub Fits : Names → Scope → Type 0
Fits names s = (name : List ℕ) (m : Meaning) → s.meaning name ≡ Some m → IsMeaning names (bodies_before s name) m

-- the objects of a function so far are those of these numbers
pub record Holds (locals : List LocalTree) (objects : VarRef → Option Shape) (names : Names) : Type 0 where
  pub object : (n : ℕ) (l : LocalTree) → slice_get locals n ≡ Some l → objects (refs.Local n) ≡ Some (shape_of l.object_type)
  pub filled : (n : ℕ) (l : LocalTree) → slice_get locals n ≡ Some l → is_single l.object_type ≡ false → names.is_filled n ≡ true

-- names stand for these objects alone, and for no local object from a number on
pub record Lies (names : Names) (objects : VarRef → Option Shape) (first : ℕ) : Type 0 where
  pub within : (v : VarRef) (shape : Shape) → names.object v ≡ Some shape → objects v ≡ Some shape
  pub below : (k : ℕ) → first ≤ k → names.object (refs.Local k) ≡ None

-- so many objects, by their numbers from one on
abbrev pub numbers_from : ℕ → ℕ → List VarRef
numbers_from first zero = []
numbers_from first (suc count) = refs.Local first ∷ numbers_from (suc first) count

-- an object of this type with this list, where these are the statics
pub record IsStored (static : ℕ → Option Shape) (type : ObjectType) (values : List Initial) : Type 0 where
  pub is_type : IsScalarType (cell_kind type)
  pub from_one : 1 ≤ cell_count type
  pub most : cell_count type ≤ MOST_CELLS
  pub within : length values ≤ cell_count type
  pub starts : All (IsInitial static (cell_kind type)) values

abbrev pub static_in : Names → ℕ → Option Shape
static_in names v = names.object (refs.Static v)

abbrev pub IsLocal : Names → LocalTree → Type 0
IsLocal names l = IsStored (static_in names) l.object_type l.values
