-- What emission wants of the code of a program that is known to be well-formed: it has one proof at most, so it is told as it is.
use Rattle.std.proofs.Common.{ℕ, false, List}
use Rattle.std.specs.Prelude.{All}
use Rattle.std.specs.Coded.{le_prop}
use Rattle.std.proofs.Math.Logic.{∥∥₁_elim}
use Rattle.std.proofs.Math.Nat.{ℕ_set}
use Rattle.tree_code.specs.WordTree.{FunctionCode, ProgramCode}
use Rattle.tree_code.specs.WellFormedCode.{IsCode}
use Rattle.acc_code.specs.AccSequence.{IsInFrame, NamesBelow}
use Rattle.acc_code.specs.AccTree.{Item, Op, FunctionItems}
use Rattle.acc_code.specs.declared.operand.AccOperand.TheVariants as operand
use Rattle.tree_code.specs.WordHelpers.{uses_helper}
use Rattle.acc_select.specs.IsSelected.{object_cells, called_parameters, IsEmittableFunction, IsEmittable}
use Rattle.acc_select.specs.Selected.{selected}
use Rattle.acc_select.proofs.EmittableProps.{numbers_set, throughout_prop, body_prop}
use Rattle.acc_select.proofs.EmittablePrograms.{selected_emittable, selected_in_frame}

name_prop : (n : ℕ) (x : Item) → IsProp (NamesBelow n x)
name_prop n (Op o (operand.Scalar k)) = le_prop
name_prop n x = hlevel

in_frame_prop : (f : FunctionItems) → IsProp (IsInFrame f)
in_frame_prop f = hlevel (le_prop, throughout_prop (NamesBelow f.scalars) (name_prop f.scalars) f.body)

function_prop : (p : ProgramCode) (f : FunctionCode) (g : FunctionItems) → IsProp (IsEmittableFunction p f g)
function_prop p f g =
    hlevel (
      numbers_set,
      ℕ_set,
      in_frame_prop g,
      body_prop (record {
        scalars = g.scalars;
        cells = object_cells p f;
        parameters = called_parameters p f;
        helps = uses_helper f.body;
        breaks = false;
        continues = false;
      }) g.body,
    )

emittable_prop : (p : ProgramCode) (gs : List FunctionItems) → IsProp (IsEmittable p gs)
emittable_prop p gs = hlevel (ℕ_set, function_prop)

-- of a program that is known to be well-formed
pub known_in_frame : (p : ProgramCode) → ∥ IsCode p ∥₁ → All IsInFrame (selected p)
known_in_frame p known = ∥∥₁_elim known (hlevel in_frame_prop) (λ code. selected_in_frame p code)

pub known_emittable : (p : ProgramCode) → ∥ IsCode p ∥₁ → IsEmittable p (selected p)
known_emittable p known = ∥∥₁_elim known (emittable_prop p (selected p)) (λ code. selected_emittable p code)
