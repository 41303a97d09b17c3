-- The typed program of a source (docs/LANGUAGE.md, "Types").
use Rattle.std.specs.Prelude.{◌<◌, ℕ, zero, suc, ◌==◌, ◌&&◌, ◌||◌, not, Bool, true, false, if◌then◌else◌, List, [], ◌∷◌, map, take, length, codes, slice_get, unwrap_or, Option, Some, None}
use Rattle.std.specs.List.{range_with_len}
use Rattle.std.specs.Str.{bytes_eq}
use Rattle.c_tree.specs.declared.program.ScalarType.{ScalarType}
use Rattle.c_tree.specs.declared.program.VarRef.{VarRef}
use Rattle.c_tree.specs.declared.program.VarRef.TheVariants as refs
use Rattle.c_tree.specs.TypedTree.{ObjectTree, FunctionTree, ProgramTree}
use Rattle.c_tree.specs.declared.uses.Use.{Use}
use Rattle.c_tree.specs.declared.uses.Use.TheVariants.{Address, Call, Cases}
use Rattle.c_rules.specs.declared.meaning.ObjectType.{ObjectType}
use Rattle.c_rules.specs.declared.meaning.ObjectType.TheVariants.{Single, Array}
use Rattle.c_rules.specs.Kinds.{int, same_kind}
use Rattle.c_tree.specs.Rounds.{CallsAmong, HasNoRound}
use Rattle.c_rules.specs.Statements.{LocalTree}
use Rattle.c_tree.specs.Uses.{called, statement_uses}
use Rattle.c_rules.specs.Renumbering as renumbering
use Rattle.c_rules.specs.Units.{StaticTree, TypedFunction, File}

-- whether the address of an object is taken
abbrev pub names_local : VarRef → ℕ → Bool
names_local (refs.Local m) n = m == n
names_local (refs.Scalar m) n = false
names_local (refs.Static m) n = false

abbrev pub is_address : Use → ℕ → Bool
is_address (Address r) n = names_local r n
is_address (Call f at) n = false
is_address (Cases m) n = false

abbrev pub is_pointed : List Use → ℕ → Bool
is_pointed [] n = false
is_pointed (u ∷ us) n = is_address u n || is_pointed us n

abbrev pub is_single : ObjectType → Bool
is_single (Single kind) = true
is_single (Array kind n) = false

-- frame scalars: the parameters and objects of one cell whose address isn't taken
abbrev pub is_one_cell : Option LocalTree → Bool
is_one_cell None = false
is_one_cell (Some l) = is_single l.object_type

abbrev pub is_scalar : List Use → List LocalTree → ℕ → Bool
is_scalar us ls n = is_one_cell (slice_get ls n) && not (is_pointed us n)

-- how many numbers below this one are such
abbrev pub count_below : (ℕ → Bool) → ℕ → ℕ
count_below is_such zero = 0
count_below is_such (suc n) = if is_such n then suc (count_below is_such n) else count_below is_such n

-- each object has the number of those of its own kind that are declared before it
abbrev pub reference : List Use → List LocalTree → ℕ → VarRef
reference us ls n =
    if is_scalar us ls n then refs.Scalar (count_below (is_scalar us ls) n)
    else refs.Local (count_below (λ k. not (is_scalar us ls k)) n)

abbrev pub references : List Use → List LocalTree → List VarRef
references us ls = map (reference us ls) (range_with_len 0 (length ls))

abbrev pub frame : TypedFunction → List VarRef
frame f = references (statement_uses f.body) f.locals

-- an object of one cell whose address isn't taken
abbrev pub in_frame : LocalTree → Bool → Bool
in_frame l pointed = is_single l.object_type && not pointed

-- how many objects are frame scalars
abbrev pub frame_scalars : List VarRef → ℕ
frame_scalars [] = 0
frame_scalars (refs.Scalar n ∷ rs) = suc (frame_scalars rs)
frame_scalars (refs.Local n ∷ rs) = frame_scalars rs
frame_scalars (refs.Static n ∷ rs) = frame_scalars rs

-- the types of the frame scalars, and the other objects
abbrev pub cell_kind : ObjectType → ScalarType
cell_kind (Single kind) = kind
cell_kind (Array kind n) = kind

abbrev pub cell_count : ObjectType → ℕ
cell_count (Single kind) = 1
cell_count (Array kind n) = n

abbrev pub scalars_in : List VarRef → List LocalTree → List ScalarType
scalars_in (refs.Scalar n ∷ rs) (l ∷ ls) = cell_kind l.object_type ∷ scalars_in rs ls
scalars_in (refs.Local n ∷ rs) (l ∷ ls) = scalars_in rs ls
scalars_in (refs.Static n ∷ rs) (l ∷ ls) = scalars_in rs ls
scalars_in rs ls = []

abbrev pub local_object : LocalTree → ObjectTree
local_object l = record { name = l.name; length = cell_count l.object_type; kind = cell_kind l.object_type; initial = l.values }

abbrev pub objects_in : List VarRef → List LocalTree → List ObjectTree
objects_in (refs.Scalar n ∷ rs) (l ∷ ls) = objects_in rs ls
objects_in (refs.Local n ∷ rs) (l ∷ ls) = local_object l ∷ objects_in rs ls
objects_in (refs.Static n ∷ rs) (l ∷ ls) = objects_in rs ls
objects_in rs ls = []

abbrev pub function_with : List VarRef → TypedFunction → FunctionTree
function_with numbers f = record {
  name = f.name;
  result = f.result;
  params = take f.parameters numbers;
  scalars = scalars_in numbers f.locals;
  locals = objects_in numbers f.locals;
  body = renumbering.statement numbers f.body;
}

abbrev pub function_tree : TypedFunction → FunctionTree
function_tree f = function_with (frame f) f

abbrev pub functions_with : List (List VarRef) → List TypedFunction → List FunctionTree
functions_with (numbers ∷ rest) (f ∷ fs) = function_with numbers f ∷ functions_with rest fs
functions_with numbers fs = []

abbrev pub object_tree : StaticTree → ObjectTree
object_tree s = record { name = s.name; length = cell_count s.object_type; kind = cell_kind s.object_type; initial = unwrap_or s.initial [] }

abbrev pub program_tree : File → ProgramTree
program_tree file = record { statics = map object_tree file.statics; functions = map function_tree file.functions }

-- `int main(void)` is defined
abbrev pub is_main : TypedFunction → Bool
is_main f = bytes_eq f.name (codes "main") && (same_kind f.result (Some int) && f.parameters == 0)

abbrev pub has_main : List TypedFunction → Bool
has_main [] = false
has_main (f ∷ fs) = is_main f || has_main fs

-- the functions that each calls
abbrev pub calls_of : List TypedFunction → List (List ℕ)
calls_of fs = map (λ f. called (statement_uses f.body)) fs

-- each function that is called has a body
abbrev pub HasBodies : List TypedFunction → Type 0
HasBodies fs = (n m : ℕ) → CallsAmong (calls_of fs) n m → m < length fs

-- no function reaches itself by calls
abbrev pub HasNoCycle : List TypedFunction → Type 0
HasNoCycle fs = HasNoRound (CallsAmong (calls_of fs))
