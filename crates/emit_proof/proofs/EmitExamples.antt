-- A frame of two scalars beside scratch words and the word of a parameter.
use Rattle.std.proofs.Common.{◌≡◌, [], ◌∷◌, refl, Some, None}
use Rattle.acc_code.specs.declared.operand.AccOperand.TheVariants as operand
use Rattle.emit_blocks.specs.Places.{Places}
use Rattle.emit_proof.specs.Standing.{place_of}

abbrev two_scalars : Places
two_scalars = record {
  scalars = record { register = 2; address = 800 } ∷ record { register = 2; address = 801 } ∷ [];
  statics = 784 ∷ [];
  locals = [];
  parameters = (810 ∷ []) ∷ [];
  step = 1;
}

second_scalar : place_of two_scalars 0 (operand.Scalar 1) ≡ Some 801
second_scalar = refl

first_parameter : place_of two_scalars 0 (operand.Param 0 0) ≡ Some 810
first_parameter = refl

third_scratch_word : place_of two_scalars 0 (operand.Scratch 2) ≡ Some 770
third_scratch_word = refl

where_a_pointer_points : place_of two_scalars 900 operand.Pointed ≡ Some 900
where_a_pointer_points = refl

no_word : place_of two_scalars 0 (operand.Number 5) ≡ None
no_word = refl
