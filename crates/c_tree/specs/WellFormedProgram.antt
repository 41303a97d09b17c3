-- Well-formed programs: what each function and object is, and what is so of all functions together.
use Rattle.std.specs.Prelude.{◌≡◌, ◌≢◌, ◌≤◌, ◌<◌, ℕ, ◌+◌, List, [], map, length, slice_get, nat_lt, All, AllPairs, Option, Some, None}
use Rattle.std.specs.List.{Any, sum_by}
use Rattle.c_syntax.specs.word_base.Name.{IsName}
use Rattle.c_tree.specs.declared.program.VarRef.{VarRef}
use Rattle.c_tree.specs.declared.program.VarRef.TheVariants.{Scalar, Local, Static}
use Rattle.c_tree.specs.Temporaries.{statement_temporaries}
use Rattle.c_tree.specs.TypedTree.{Kind, ObjectTree, FunctionTree, ProgramTree}
use Rattle.c_tree.specs.SourceRun.{main_name}
use Rattle.c_tree.specs.declared.enclosing.Enclosing.TheVariants as around
use Rattle.c_tree.specs.Kinds.{int, IsScalarType, IsKind}
use Rattle.c_tree.specs.Rounds.{CallsAmong, HasNoRound}
use Rattle.c_tree.specs.Uses.{called, statement_uses, case_counts}
use Rattle.c_tree.specs.WellFormed.{Shape, Signature, Names, IsInitial, IsWellFormed, opened}
use Rattle.c_tree.specs.declared.limits.TheConstants.{MOST_CASES, MOST_CELLS, MOST_FRAME_SCALARS, MOST_FUNCTIONS, MOST_OBJECTS, MOST_PARAMETERS}

-- the objects that names stand for: a frame scalar is one cell
abbrev pub scalar_shape : Kind → Option Shape
scalar_shape None = None
scalar_shape (Some kind) = Some (record { kind = kind; length = 1 })

abbrev pub object_shape : Option ObjectTree → Option Shape
object_shape None = None
object_shape (Some o) = Some (record { kind = o.kind; length = o.length })

abbrev pub static_in : ProgramTree → ℕ → Option Shape
static_in p n = object_shape (slice_get p.statics n)

abbrev pub object_in : ProgramTree → FunctionTree → VarRef → Option Shape
object_in p f (Scalar n) = scalar_shape (slice_get f.scalars n)
object_in p f (Local n) = object_shape (slice_get f.locals n)
object_in p f (Static n) = static_in p n

-- the type of a parameter
abbrev pub object_kind : Option ObjectTree → Kind
object_kind None = None
object_kind (Some o) = Some o.kind

abbrev pub kind_of_parameter : FunctionTree → VarRef → Kind
kind_of_parameter f (Scalar n) = slice_get f.scalars n
kind_of_parameter f (Local n) = object_kind (slice_get f.locals n)
kind_of_parameter f (Static n) = None

abbrev pub signature : Option FunctionTree → Option Signature
signature None = None
signature (Some f) = Some (record { parameters = map (kind_of_parameter f) f.params; result = f.result })

-- what is known everywhere in a function: statics and functions
abbrev pub static_names : ProgramTree → VarRef → Option Shape
static_names p (Scalar n) = None
static_names p (Local n) = None
static_names p (Static n) = static_in p n

abbrev pub names_within : ProgramTree → FunctionTree → Names
names_within p f = record {
  object = static_names p;
  function = λ n. signature (slice_get p.functions n);
  is_filled = λ n. nat_lt n (length f.locals);
}

-- an object of 1 to 32,767 cells, with a list that it has room for
pub record IsObject (p : ProgramTree) (o : ObjectTree) : Type 0 where
  pub is_type : IsScalarType o.kind
  pub from_one : 1 ≤ o.length
  pub most : o.length ≤ MOST_CELLS
  pub within : length o.initial ≤ o.length
  pub starts : All (IsInitial (static_in p) o.kind) o.initial

-- a parameter is an object of one cell of its function
abbrev pub IsParameter : FunctionTree → VarRef → Type 0
IsParameter f (Scalar n) = n < length f.scalars
IsParameter f (Local n) = (o : ObjectTree) × (slice_get f.locals n ≡ Some o) × (o.length ≡ 1)
IsParameter f (Static n) = ⊥

pub record IsFunction (p : ProgramTree) (f : FunctionTree) : Type 0 where
  pub result : IsKind f.result
  pub scalars : All IsScalarType f.scalars
  pub locals : All (IsObject p) f.locals
  pub parameters : All (IsParameter f) f.params
  pub differ : AllPairs (λ a b. a ≢ b) f.params
  pub body : IsWellFormed (object_in p f) f.result (opened (object_in p f) f.params (names_within p f)) around.Body f.body

-- what the counts of a program may be at most
pub record IsLimited (fs : List FunctionTree) : Type 0 where
  pub functions : length fs ≤ MOST_FUNCTIONS
  pub parameters : All (λ f. length f.params ≤ MOST_PARAMETERS) fs
  pub scalars : All (λ f. length f.scalars + statement_temporaries f.body ≤ MOST_FRAME_SCALARS) fs
  pub cases : All (λ f. All (λ n. n ≤ MOST_CASES) (case_counts (statement_uses f.body))) fs

-- the objects in memory
abbrev pub object_count : ProgramTree → ℕ
object_count p = length p.statics + sum_by (λ f. length f.locals) p.functions

-- `int main(void)`
pub record IsMain (f : FunctionTree) : Type 0 where
  pub name : f.name ≡ main_name
  pub result : f.result ≡ Some int
  pub parameters : f.params ≡ []

-- the functions that each calls
abbrev pub program_calls : List FunctionTree → List (List ℕ)
program_calls fs = map (λ f. called (statement_uses f.body)) fs

pub record IsProgram (p : ProgramTree) : Type 0 where
  pub statics : All (IsObject p) p.statics
  pub functions : All (IsFunction p) p.functions
  pub names : All IsName (map (λ f. f.name) p.functions)
  pub differ : AllPairs (λ a b. a ≢ b) (map (λ f. f.name) p.functions)
  pub main : Any IsMain p.functions
  pub bodies : (n m : ℕ) → CallsAmong (program_calls p.functions) n m → m < length p.functions
  pub no_cycle : HasNoRound (CallsAmong (program_calls p.functions))
  pub limits : IsLimited p.functions
  pub objects : object_count p ≤ MOST_OBJECTS
