-- Tests: what a test that holds just where a truth does is, in either sense.
use Rattle.std.proofs.Common.{◌≡◌, ℕ, Bool, true, false, refl, ap, ◌∙◌}
use Rattle.std.specs.Prelude.{not, ◌||◌, ◌==◌}
use Rattle.acc_code.specs.declared.operation.Test.{Test}
use Rattle.acc_code.specs.declared.operation.Test.TheVariants as test
use Rattle.acc_select.specs.acc_operations.Kinds.{opposite, in_sense}
use Rattle.ir_semantics.specs.AccRows.{Acc, Whole, holds, is_negative}

-- a truth of this sense
abbrev pub of_sense : Bool → Bool → Bool
of_sense true t = t
of_sense false t = not t

-- a test that holds just where b is true
pub record IsTest (t : Test) (b : Bool) (a : Acc) : Type 0 where
  pub z : ℕ
  pub is : a ≡ Whole z
  pub holds_so : holds t z ≡ b

not_not : (b : Bool) → b ≡ not (not b)
not_not true = refl
not_not false = refl

opposite_holds : (t : Test) (z : ℕ) → holds (opposite t) z ≡ not (holds t z)
opposite_holds test.Gz z = not_not (is_negative z || (z == 0))
opposite_holds test.Lez z = refl
opposite_holds test.Lz z = refl
opposite_holds test.Gez z = not_not (is_negative z)
opposite_holds test.Nz z = not_not (z == 0)
opposite_holds test.Z z = refl

-- the opposite test holds where the test doesn't
pub opposite_too : (t : Test) (b : Bool) (a : Acc) → IsTest t b a → IsTest (opposite t) (not b) a
opposite_too t b a i = record { z = i.z; is = i.is; holds_so = opposite_holds t i.z ∙ ap not i.holds_so }

pub sense_too : (s : Bool) (t : Test) (b : Bool) (a : Acc) → IsTest t b a → IsTest (in_sense s t) (of_sense s b) a
sense_too true t b a i = i
sense_too false t b a i = opposite_too t b a i
