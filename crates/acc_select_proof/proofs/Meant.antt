-- What each operation on words calculates, or decides, by how it is done.
use Rattle.std.proofs.Common.{◌≡◌, ℕ, Bool, true, false, refl}
use Rattle.std.specs.Prelude.{⊤, not}
use Rattle.word_base.specs.Words.{Calc, unsigned_add, unsigned_subtract, unsigned_multiply, int_quotient, unsigned_quotient, int_remainder, unsigned_remainder, bits_and, bits_or, bits_xor, shift_left, int_shift_right, unsigned_shift_right, equal, int_less, unsigned_less}
use Rattle.tree_code.specs.declared.operator.WordOp.{WordOp}
use Rattle.tree_code.specs.declared.operator.WordOp.TheVariants as word
use Rattle.acc_code.specs.declared.operation.Test.{Test}
use Rattle.acc_code.specs.declared.operation.Test.TheVariants as test
use Rattle.acc_select.specs.acc_operations.Kinds.{operation_of}
use Rattle.acc_select.specs.acc_operations.declared.comparison.Comparison.{Comparison}
use Rattle.acc_select.specs.acc_operations.declared.comparison.Order.{Order}
use Rattle.acc_select.specs.acc_operations.declared.comparison.Order.TheVariants.{Exact, Signed, Unsigned}
use Rattle.acc_select.specs.acc_operations.declared.operation.Arithmetic.{Arithmetic}
use Rattle.acc_select.specs.acc_operations.declared.operation.Arithmetic.TheVariants.{Sum, Difference, Bits, Product, LeftShift, RightShift, Quotient, Remainder}
use Rattle.acc_select.specs.acc_operations.declared.operation.Bitwise.TheVariants as bits
use Rattle.acc_select.specs.acc_operations.declared.operation.Operation.{Operation}
use Rattle.acc_select.specs.acc_operations.declared.operation.Operation.TheVariants.{Word, Truth}
use Rattle.ir_semantics.specs.Meanings.{Meaning, Calculates, Decides, meaning_of}

abbrev pub calc_of : Arithmetic → ℕ → ℕ → Calc
calc_of Sum = unsigned_add
calc_of Difference = unsigned_subtract
calc_of (Bits bits.And) = bits_and
calc_of (Bits bits.Or) = bits_or
calc_of (Bits bits.Xor) = bits_xor
calc_of Product = unsigned_multiply
calc_of LeftShift = shift_left
calc_of (RightShift true) = int_shift_right
calc_of (RightShift false) = unsigned_shift_right
calc_of (Quotient true) = int_quotient
calc_of (Quotient false) = unsigned_quotient
calc_of (Remainder true) = int_remainder
calc_of (Remainder false) = unsigned_remainder

-- a test of two words, by what is less and what is equal
abbrev pub tested_by : Test → (ℕ → ℕ → Bool) → ℕ → ℕ → Bool
tested_by test.Gz less = λ a b. less b a
tested_by test.Lez less = λ a b. not (less b a)
tested_by test.Lz less = λ a b. less a b
tested_by test.Gez less = λ a b. not (less a b)
tested_by test.Nz less = λ a b. not (equal a b)
tested_by test.Z less = λ a b. equal a b

abbrev pub less_by : Order → ℕ → ℕ → Bool
less_by Exact = unsigned_less
less_by Signed = int_less
less_by Unsigned = unsigned_less

abbrev pub decides_of : Comparison → ℕ → ℕ → Bool
decides_of c = tested_by c.test (less_by c.order)

abbrev pub meant : Operation → Meaning
meant (Word o) = Calculates (calc_of o)
meant (Truth c) = Decides (decides_of c)

pub meaning_is : (o : WordOp) → meaning_of o ≡ meant (operation_of o)
meaning_is word.Add = refl
meaning_is word.Sub = refl
meaning_is word.Mul = refl
meaning_is word.DivInt = refl
meaning_is word.DivUnsigned = refl
meaning_is word.RemInt = refl
meaning_is word.RemUnsigned = refl
meaning_is word.And = refl
meaning_is word.Or = refl
meaning_is word.Xor = refl
meaning_is word.Shl = refl
meaning_is word.ShrInt = refl
meaning_is word.ShrUnsigned = refl
meaning_is word.Eq = refl
meaning_is word.Ne = refl
meaning_is word.LtInt = refl
meaning_is word.LtUnsigned = refl
meaning_is word.GtInt = refl
meaning_is word.GtUnsigned = refl
meaning_is word.LeInt = refl
meaning_is word.LeUnsigned = refl
meaning_is word.GeInt = refl
meaning_is word.GeUnsigned = refl

-- whether two words are equal is all that an exact comparison tells
abbrev pub IsTold : Order → Test → Type 0
IsTold Signed t = ⊤
IsTold Unsigned t = ⊤
IsTold Exact test.Z = ⊤
IsTold Exact test.Nz = ⊤
IsTold Exact t = ⊥

abbrev pub IsTellable : Operation → Type 0
IsTellable (Word o) = ⊤
IsTellable (Truth c) = IsTold c.order c.test

pub operations_tell : (o : WordOp) → IsTellable (operation_of o)
operations_tell word.Add = tt
operations_tell word.Sub = tt
operations_tell word.Mul = tt
operations_tell word.DivInt = tt
operations_tell word.DivUnsigned = tt
operations_tell word.RemInt = tt
operations_tell word.RemUnsigned = tt
operations_tell word.And = tt
operations_tell word.Or = tt
operations_tell word.Xor = tt
operations_tell word.Shl = tt
operations_tell word.ShrInt = tt
operations_tell word.ShrUnsigned = tt
operations_tell word.Eq = tt
operations_tell word.Ne = tt
operations_tell word.LtInt = tt
operations_tell word.LtUnsigned = tt
operations_tell word.GtInt = tt
operations_tell word.GtUnsigned = tt
operations_tell word.LeInt = tt
operations_tell word.LeUnsigned = tt
operations_tell word.GeInt = tt
operations_tell word.GeUnsigned = tt
