-- How each operation on words is done.
use Rattle.std.specs.Prelude.{Bool, true, false}
use Rattle.tree_code.specs.declared.operator.WordOp.{WordOp}
use Rattle.tree_code.specs.declared.operator.WordOp.TheVariants as word
use Rattle.acc_code.specs.declared.operation.Test.{Test}
use Rattle.acc_code.specs.declared.operation.Test.TheVariants as test
use Rattle.acc_operations.specs.declared.comparison.Comparison.{Comparison}
use Rattle.acc_operations.specs.declared.comparison.Order.{Order}
use Rattle.acc_operations.specs.declared.comparison.Order.TheVariants as order
use Rattle.acc_operations.specs.declared.operation.Arithmetic.TheVariants as arithmetic
use Rattle.acc_operations.specs.declared.operation.Bitwise.TheVariants as bits
use Rattle.acc_operations.specs.declared.operation.Operation.{Operation}
use Rattle.acc_operations.specs.declared.operation.Operation.TheVariants.{Word, Truth}

abbrev pub comparison : Order → Test → Operation
comparison o t = Truth (record { order = o; test = t })

abbrev pub operation_of : WordOp → Operation
operation_of word.Add = Word arithmetic.Sum
operation_of word.Sub = Word arithmetic.Difference
operation_of word.Mul = Word arithmetic.Product
operation_of word.DivInt = Word (arithmetic.Quotient true)
operation_of word.DivUnsigned = Word (arithmetic.Quotient false)
operation_of word.RemInt = Word (arithmetic.Remainder true)
operation_of word.RemUnsigned = Word (arithmetic.Remainder false)
operation_of word.And = Word (arithmetic.Bits bits.And)
operation_of word.Or = Word (arithmetic.Bits bits.Or)
operation_of word.Xor = Word (arithmetic.Bits bits.Xor)
operation_of word.Shl = Word arithmetic.LeftShift
operation_of word.ShrInt = Word (arithmetic.RightShift true)
operation_of word.ShrUnsigned = Word (arithmetic.RightShift false)
operation_of word.Eq = comparison order.Exact test.Z
operation_of word.Ne = comparison order.Exact test.Nz
operation_of word.LtInt = comparison order.Signed test.Lz
operation_of word.LtUnsigned = comparison order.Unsigned test.Lz
operation_of word.GtInt = comparison order.Signed test.Gz
operation_of word.GtUnsigned = comparison order.Unsigned test.Gz
operation_of word.LeInt = comparison order.Signed test.Lez
operation_of word.LeUnsigned = comparison order.Unsigned test.Lez
operation_of word.GeInt = comparison order.Signed test.Gez
operation_of word.GeUnsigned = comparison order.Unsigned test.Gez

-- the test where the comparison doesn't hold, and that where left and right have changed places
abbrev pub opposite : Test → Test
opposite test.Gz = test.Lez
opposite test.Lez = test.Gz
opposite test.Lz = test.Gez
opposite test.Gez = test.Lz
opposite test.Nz = test.Z
opposite test.Z = test.Nz

-- the test that holds where one has this truth
abbrev pub in_sense : Bool → Test → Test
in_sense true t = t
in_sense false t = opposite t

abbrev pub swapped : Test → Test
swapped test.Gz = test.Lz
swapped test.Lez = test.Gez
swapped test.Lz = test.Gz
swapped test.Gez = test.Lez
swapped test.Nz = test.Nz
swapped test.Z = test.Z

abbrev pub swapped_comparison : Comparison → Comparison
swapped_comparison c = record { order = c.order; test = swapped c.test }
