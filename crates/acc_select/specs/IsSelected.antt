-- What emission needs of the accumulator code of a word tree, beside the tree (docs/TRANSLATION.md, "What emission wants").
use Rattle.std.specs.Prelude.{ℕ, ◌≡◌, ◌==◌, ◌||◌, Bool, false, if◌then◌else◌, List, [], ◌∷◌, length, slice_get, Option, Some, None}
use Rattle.c_tree.specs.declared.program.VarRef.{VarRef}
use Rattle.c_tree.specs.declared.program.VarRef.TheVariants.{Scalar, Local, Static}
use Rattle.c_tree.specs.Uses.{called}
use Rattle.tree_code.specs.WordTree.{FunctionCode, ProgramCode}
use Rattle.tree_code.specs.WellFormedCode.{length_of, parameter_count}
use Rattle.tree_code.specs.WordHelpers.{uses_helper}
use Rattle.tree_code.specs.WordUses.{word_statement_uses}
use Rattle.acc_code.specs.AccSequence.{IsInFrame}
use Rattle.acc_code.specs.AccTree.{FunctionItems}
use Rattle.acc_code.specs.Emittable.{IsEmittableBody}

-- the cells of the objects that operands name: scalars are named by their numbers
abbrev pub object_cells : ProgramCode → FunctionCode → VarRef → Option ℕ
object_cells p f (Scalar n) = None
object_cells p f (Local n) = length_of (slice_get f.locals n)
object_cells p f (Static n) = length_of (slice_get p.statics n)

-- how many parameters a function has that this one calls
abbrev pub is_listed : ℕ → List ℕ → Bool
is_listed n [] = false
is_listed n (m ∷ ms) = n == m || is_listed n ms

abbrev pub called_parameters : ProgramCode → FunctionCode → ℕ → Option ℕ
called_parameters p f n = if is_listed n (called (word_statement_uses f.body)) then parameter_count (slice_get p.functions n) else None

-- the code of a function
pub record IsEmittableFunction (p : ProgramCode) (f : FunctionCode) (g : FunctionItems) : Type 0 where
  pub name : g.name ≡ f.name
  pub scalars : g.scalars ≡ f.scalars
  pub frame : IsInFrame g
  pub body : IsEmittableBody g.scalars (object_cells p f) (called_parameters p f) (uses_helper f.body) g.body

-- the code of a program: that of its functions, in order
pub record IsEmittable (p : ProgramCode) (gs : List FunctionItems) : Type 0 where
  pub count : length gs ≡ length p.functions
  pub each : (n : ℕ) (f : FunctionCode) (g : FunctionItems) → slice_get p.functions n ≡ Some f → slice_get gs n ≡ Some g → IsEmittableFunction p f g
