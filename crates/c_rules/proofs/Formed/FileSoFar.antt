-- What is so of a file before the externals that are left, and how it stays so while names are declared.
use Rattle.std.proofs.Common.{◌≡◌, ◌≤◌, ◌⊎◌, ℕ, Bool, true, false, if◌then◌else◌, List, [], map, take}
use Rattle.std.proofs.Common.{length, slice_get, Option, Some, None, refl, sym, ap, ◌∙◌, subst, inl, inr, arith}
use Rattle.std.specs.List.{position_or_len}
use Rattle.std.specs.Prelude.{All, AllPairs, ◌≢◌, unwrap_or}
use Rattle.std.specs.Str.{bytes_eq}
use Rattle.std.proofs.lemmas.List.Elements.{All-nil, All-weaker}
use Rattle.std.proofs.lemmas.Option.{none-some, same_Some, get_or_from_slice_get, slice_get_within}
use Rattle.std.proofs.lemmas.Slice.Eq.{bytes_eq-Decides}
use Rattle.c_tree.specs.c_syntax.SyntaxTree.{UnitTree}
use Rattle.c_tree.specs.declared.program.VarRef.{VarRef}
use Rattle.c_tree.specs.declared.program.VarRef.TheVariants as refs
use Rattle.c_tree.specs.declared.enclosing.Enclosing.TheVariants as around
use Rattle.c_rules.specs.declared.meaning.Meaning.{Meaning}
use Rattle.c_rules.specs.declared.meaning.Meaning.TheVariants as meanings
use Rattle.c_rules.specs.declared.meaning.FunctionType.{FunctionType}
use Rattle.c_rules.specs.Programs.{cell_kind, is_single}
use Rattle.c_rules.specs.Scopes.{Scope, declare}
use Rattle.c_rules.specs.Statements.{LocalTree}
use Rattle.c_rules.specs.Typing.{bodies_before}
use Rattle.c_rules.specs.Units.{StaticTree, TypedFunction, File, bodies_behind, empty_file}
use Rattle.c_tree.specs.Kinds.{IsScalarType, IsKind}
use Rattle.c_tree.specs.WellFormed.{Shape, Names, IsWellFormed, opened}
use Rattle.c_rules.proofs.Formed.Context.{shape_of, Fits, IsMeaning, IsStored, IsLocal, static_in, numbers_from}
use Rattle.c_rules.proofs.Formed.OpenedNames.{Suits}
use Rattle.c_rules.proofs.Formed.FileContext.{static_shape, local_kind}

-- what holds of all of a list holds at a place
pub at_place : {A : Type 0} (P : A → Type 0) (xs : List A) (n : ℕ) (x : A) → All P xs → slice_get xs n ≡ Some x → P x
at_place P xs n x all there = subst P (get_or_from_slice_get xs n x x there) (all n x (slice_get_within xs n x there))

-- what a name of file scope stands for: an object that is there with its type, or a function
abbrev pub Stands : List StaticTree → Meaning → Type 0
Stands statics (meanings.Object (refs.Scalar n) type) = ⊥
Stands statics (meanings.Object (refs.Local n) type) = ⊥
Stands statics (meanings.Object (refs.Static n) type) = (static_shape (slice_get statics n) ≡ Some (shape_of type)) × IsScalarType (cell_kind type)
Stands statics (meanings.Function type) = IsKind type.result × All IsScalarType type.parameters

-- an object is right whatever the names of this scope stand for
abbrev pub IsStaticIn : Scope → StaticTree → Type 0
IsStaticIn s o = (names : Names) → Fits names s → IsStored (static_in names) o.object_type (unwrap_or o.initial [])

-- and so is a function, whose name stands for its type
pub record IsFunctionIn (s : Scope) (f : TypedFunction) : Type 0 where
  pub type : FunctionType
  pub named : s.meaning f.name ≡ Some (meanings.Function type)
  pub result : f.result ≡ type.result
  pub kind : IsKind f.result
  pub parameters : map local_kind (take f.parameters f.locals) ≡ map Some type.parameters
  pub within : f.parameters ≤ length f.locals
  pub single : All (λ l. is_single l.object_type ≡ true) (take f.parameters f.locals)
  pub locals : (objects : VarRef → Option Shape) (names : Names) → Suits s f.locals 0 objects names → All (IsLocal names) f.locals
  pub tree : (objects : VarRef → Option Shape) (names : Names) → Suits s f.locals 0 objects names
      → IsWellFormed objects f.result (opened objects (numbers_from 0 f.parameters) names) around.Body f.body

-- the names of functions
abbrev pub function_names : List TypedFunction → List (List ℕ)
function_names fs = map (λ f. f.name) fs

pub record IsFileSoFar (rest : UnitTree) (file : File) : Type 0 where
  pub names : (name : List ℕ) (m : Meaning) → file.scope.meaning name ≡ Some m → Stands file.statics m
  pub statics : All (IsStaticIn file.scope) file.statics
  pub functions : All (IsFunctionIn file.scope) file.functions
  -- the place of a function is that of its body
  pub bodies : file.scope.bodies ≡ bodies_behind (function_names file.functions) rest
  pub names_differ : AllPairs (λ a b. a ≢ b) (function_names file.functions)

pub so_far_at_start : (unit : UnitTree) → IsFileSoFar unit (empty_file unit)
so_far_at_start unit = record {
  names = λ name m there. absurd (none-some m there);
  statics = All-nil (IsStaticIn (empty_file unit).scope);
  functions = All-nil (IsFunctionIn (empty_file unit).scope);
  bodies = refl;
  names_differ = λ i j d less within. absurd (omega (arith, within));
}

-- a scope with more names, of which each of the first keeps its meaning
pub record Grows (s t : Scope) : Type 0 where
  pub kept : (name : List ℕ) (m : Meaning) → s.meaning name ≡ Some m → t.meaning name ≡ Some m
  pub bodies : t.bodies ≡ s.bodies

pub grows_by_none : (s : Scope) → Grows s s
grows_by_none s = record { kept = λ name m there. there; bodies = refl }

module _ (s t : Scope) (grows : Grows s t) where
  fits_fewer : (names : Names) → Fits names t → Fits names s
  fits_fewer names fits name m there =
      let same : bodies_before t name ≡ bodies_before s name = ap (position_or_len (λ body. bytes_eq body name)) grows.bodies in
      subst (λ n. IsMeaning names n m) same (fits name m (grows.kept name m there))

  suits_fewer : (all : List LocalTree) (objects : VarRef → Option Shape) (names : Names) → Suits t all 0 objects names → Suits s all 0 objects names
  suits_fewer all objects names suits = record { fits = fits_fewer names suits.fits; holds = suits.holds; lies = suits.lies }

  pub static_kept : (o : StaticTree) → IsStaticIn s o → IsStaticIn t o
  static_kept o known names fits = known names (fits_fewer names fits)

  pub function_kept : (f : TypedFunction) → IsFunctionIn s f → IsFunctionIn t f
  function_kept f known = record {
    type = known.type;
    named = grows.kept f.name (meanings.Function known.type) known.named;
    result = known.result;
    kind = known.kind;
    parameters = known.parameters;
    within = known.within;
    single = known.single;
    locals = λ objects names suits. known.locals objects names (suits_fewer f.locals objects names suits);
    tree = λ objects names suits. known.tree objects names (suits_fewer f.locals objects names suits);
  }

-- a file with more names and objects
abbrev pub with_names : File → Scope → List StaticTree → File
with_names file t statics = record { scope = t; statics = statics; functions = file.functions }

pub with_more : (rest : UnitTree) (file : File) (t : Scope) (statics : List StaticTree) → IsFileSoFar rest file → Grows file.scope t
    → ((name : List ℕ) (m : Meaning) → t.meaning name ≡ Some m → Stands statics m) → All (IsStaticIn t) statics
    → IsFileSoFar rest (with_names file t statics)
with_more rest file t statics known grows stand right = record {
  names = stand;
  statics = right;
  functions = All-weaker (IsFunctionIn file.scope) (IsFunctionIn t) (function_kept file.scope t grows) file.functions known.functions;
  bodies = grows.bodies ∙ known.bodies;
  names_differ = known.names_differ;
}

-- one more name
chosen : (b : Bool) (m x : Meaning) (o : Option Meaning) → (if b then Some m else o) ≡ Some x → (m ≡ x) ⊎ (o ≡ Some x)
chosen true m x o there = inl (same_Some m x there)
chosen false m x o there = inr there

module _ (s : Scope) (name : List ℕ) (m : Meaning) where
  pub declared_or_old : (n : List ℕ) (x : Meaning) → (declare s name m).meaning n ≡ Some x → (m ≡ x) ⊎ (s.meaning n ≡ Some x)
  declared_or_old n x there = chosen (bytes_eq name n) m x (s.meaning n) there

  pub declared_there : (declare s name m).meaning name ≡ Some m
  declared_there = ap (λ b. if b then Some m else s.meaning name) ((bytes_eq-Decides name name).1 refl)

  pub grows_by_name : s.meaning name ≡ None → Grows s (declare s name m)
  grows_by_name none = record { kept = λ n x there. old n x there (bytes_eq name n) refl; bodies = refl }
    where
      old : (n : List ℕ) (x : Meaning) → s.meaning n ≡ Some x → (b : Bool) → bytes_eq name n ≡ b → (if b then Some m else s.meaning n) ≡ Some x
      old n x there true same = let gone : s.meaning n ≡ None = subst (λ k. s.meaning k ≡ None) ((bytes_eq-Decides name n).0 same) none
          in absurd (none-some x (sym gone ∙ there))
      old n x there false same = there
