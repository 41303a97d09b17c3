-- What the names in the body of each function of a typed file stand for, and what is so of its objects and functions.
use Rattle.std.proofs.Common.{◌≡◌, ◌≤◌, false, true, Bool, not, [], map, take, length, slice_get, Option, Some, None}
use Rattle.std.specs.Prelude.{All, AllPairs, ◌≢◌, unwrap_or}
use Rattle.c_tree.specs.TypedTree.{Kind}
use Rattle.c_tree.specs.declared.program.VarRef.{VarRef}
use Rattle.c_tree.specs.declared.program.VarRef.TheVariants as refs
use Rattle.c_tree.specs.declared.enclosing.Enclosing.TheVariants as around
use Rattle.c_rules.specs.Programs.{cell_kind, is_single}
use Rattle.c_rules.specs.Statements.{LocalTree}
use Rattle.c_rules.specs.Units.{StaticTree, TypedFunction, File}
use Rattle.c_tree.specs.Kinds.{IsKind}
use Rattle.c_tree.specs.WellFormed.{Shape, Signature, Names, IsWellFormed, opened}
use Rattle.c_rules.proofs.Formed.Context.{shape_of, IsStored, IsLocal, numbers_from}

-- objects
abbrev pub local_shape : Option LocalTree → Option Shape
local_shape None = None
local_shape (Some l) = Some (shape_of l.object_type)

abbrev pub static_shape : Option StaticTree → Option Shape
static_shape None = None
static_shape (Some o) = Some (shape_of o.object_type)

abbrev pub object_in : File → TypedFunction → VarRef → Option Shape
object_in file f (refs.Scalar n) = None
object_in file f (refs.Local n) = local_shape (slice_get f.locals n)
object_in file f (refs.Static n) = static_shape (slice_get file.statics n)

-- what is known everywhere: statics
abbrev pub static_names : File → VarRef → Option Shape
static_names file (refs.Scalar n) = None
static_names file (refs.Local n) = None
static_names file (refs.Static n) = static_shape (slice_get file.statics n)

-- the first objects of a function are its parameters
abbrev pub local_kind : LocalTree → Kind
local_kind l = Some (cell_kind l.object_type)

abbrev pub signature : Option TypedFunction → Option Signature
signature None = None
signature (Some f) = Some (record { parameters = map local_kind (take f.parameters f.locals); result = f.result })

-- an array is filled with its list
abbrev pub is_array : Option LocalTree → Bool
is_array None = false
is_array (Some l) = not (is_single l.object_type)

abbrev pub names_in : File → TypedFunction → Names
names_in file f = record {
  object = static_names file;
  function = λ n. signature (slice_get file.functions n);
  is_filled = λ n. is_array (slice_get f.locals n);
}

pub record IsTypedFunction (file : File) (f : TypedFunction) : Type 0 where
  pub result : IsKind f.result
  pub parameters : f.parameters ≤ length f.locals
  pub single : All (λ l. is_single l.object_type ≡ true) (take f.parameters f.locals)
  pub locals : All (IsLocal (names_in file f)) f.locals
  pub tree : IsWellFormed (object_in file f) f.result (opened (object_in file f) (numbers_from 0 f.parameters) (names_in file f)) around.Body f.body

abbrev pub IsStatic : File → StaticTree → Type 0
IsStatic file o = IsStored (λ n. static_shape (slice_get file.statics n)) o.object_type (unwrap_or o.initial [])

-- a file of which no node breaks a rule
pub record IsTypedFile (file : File) : Type 0 where
  pub statics : All (IsStatic file) file.statics
  pub functions : All (IsTypedFunction file) file.functions
  pub names_differ : AllPairs (λ a b. a ≢ b) (map (λ f. f.name) file.functions)
