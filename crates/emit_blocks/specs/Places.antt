-- Where operands of accumulator code lie (docs/TRANSLATION.md, "Runs").
use Rattle.std.specs.Prelude.{ℕ, ◌+◌, List, map, slice_get, Option, Some, None}
use Rattle.std.specs.Vec.{vec_items}
use Rattle.c_tree.specs.declared.program.VarRef.{VarRef}
use Rattle.c_tree.specs.declared.program.VarRef.TheVariants.{Scalar, Local, Static}
use Rattle.acc_code.specs.declared.operand.AccOperand.{AccOperand}
use Rattle.acc_code.specs.declared.operand.AccOperand.TheVariants as operand
use Rattle.c25_isa.specs.Step.{wrap16}
use Rattle.emit_blocks.specs.declared.site.ScalarPlace.{ScalarPlace}
use Rattle.emit_blocks.specs.declared.site.Site.{Site}
use Rattle.emit_blocks.specs.declared.step.Reach.{Reach}
use Rattle.emit_blocks.specs.declared.step.Reach.TheVariants as reach

-- the addresses of the words that a function's code names, and the step by which AR0 moves a register
pub record Places : Type 0 where
  pub scalars : List ScalarPlace
  pub statics : List ℕ
  pub locals : List ℕ
  pub parameters : List (List ℕ)
  pub step : ℕ

-- those of a site in memory
abbrev pub places_of : Site → Places
places_of s = record {
  scalars = s.scalars.now;
  statics = s.statics.now;
  locals = s.locals.now;
  parameters = map vec_items s.parameters.now;
  step = s.step;
}

-- one that isn't there is 0
abbrev pub or_zero : Option ℕ → ℕ
or_zero None = 0
or_zero (Some a) = a

abbrev pub address_in : List ℕ → ℕ → ℕ
address_in addresses n = or_zero (slice_get addresses n)

abbrev pub scalar_or_zero : Option ScalarPlace → ScalarPlace
scalar_or_zero None = record { register = 2; address = 0 }
scalar_or_zero (Some p) = p

abbrev pub parameters_in : Option (List ℕ) → ℕ → ℕ
parameters_in None n = 0
parameters_in (Some addresses) n = address_in addresses n

-- where an object begins; scalars have no such address
abbrev pub object_address : Places → VarRef → ℕ
object_address s (Scalar n) = 0
object_address s (Local n) = address_in s.locals n
object_address s (Static n) = address_in s.statics n

-- the first scratch word
abbrev pub SCRATCH : ℕ
SCRATCH = 768

-- how an operand is reached
abbrev pub reach_of : Places → AccOperand → Reach
reach_of s operand.Nothing = reach.Constant 0
reach_of s (operand.Scalar n) = reach.Scalar (scalar_or_zero (slice_get s.scalars n))
reach_of s (operand.Direct v) = reach.Word (object_address s v)
reach_of s (operand.Param f n) = reach.Word (parameters_in (slice_get s.parameters f) n)
reach_of s (operand.Scratch n) = reach.Word (SCRATCH + n)
reach_of s (operand.Number w) = reach.Constant w
reach_of s (operand.Address v n) = reach.Constant (wrap16 (object_address s v + n))
reach_of s operand.Pointed = reach.Pointer
