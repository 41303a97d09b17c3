-- Which operations are done by a routine: those of word trees that are.
use Rattle.std.proofs.Common.{◌≡◌, refl, Bool, true, false}
use Rattle.std.specs.Prelude.{not}
use Rattle.tree_code.specs.declared.operator.WordOp.{WordOp}
use Rattle.tree_code.specs.declared.operator.WordOp.TheVariants as word
use Rattle.tree_code.specs.WordHelpers.{done_by_routine}
use Rattle.acc_operations.specs.Kinds.{operation_of}
use Rattle.acc_operations.specs.declared.operation.Arithmetic.TheVariants as arithmetic
use Rattle.acc_operations.specs.declared.operation.Operation.{Operation}
use Rattle.acc_operations.specs.declared.operation.Operation.TheVariants as operation

-- an operation, where its right operand is a constant or isn't
abbrev pub by_routine : Operation → Bool → Bool
by_routine (operation.Word (arithmetic.Quotient signed)) constant = true
by_routine (operation.Word (arithmetic.Remainder signed)) constant = true
by_routine (operation.Word (arithmetic.RightShift signed)) constant = not constant
by_routine o constant = false

pub routines_agree : (o : WordOp) (constant : Bool) → by_routine (operation_of o) constant ≡ done_by_routine o constant
routines_agree word.Add constant = refl
routines_agree word.Sub constant = refl
routines_agree word.Mul constant = refl
routines_agree word.DivInt constant = refl
routines_agree word.DivUnsigned constant = refl
routines_agree word.RemInt constant = refl
routines_agree word.RemUnsigned constant = refl
routines_agree word.And constant = refl
routines_agree word.Or constant = refl
routines_agree word.Xor constant = refl
routines_agree word.Shl constant = refl
routines_agree word.ShrInt constant = refl
routines_agree word.ShrUnsigned constant = refl
routines_agree word.Eq constant = refl
routines_agree word.Ne constant = refl
routines_agree word.LtInt constant = refl
routines_agree word.LtUnsigned constant = refl
routines_agree word.GtInt constant = refl
routines_agree word.GtUnsigned constant = refl
routines_agree word.LeInt constant = refl
routines_agree word.LeUnsigned constant = refl
routines_agree word.GeInt constant = refl
routines_agree word.GeUnsigned constant = refl
