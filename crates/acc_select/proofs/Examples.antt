-- The code of small sources, by hand.
use Rattle.std.proofs.Common.{◌≡◌, ℕ, refl}
use Rattle.std.specs.Prelude.{true}
use Rattle.c_tree.specs.declared.program.VarRef.TheVariants.{Scalar, Static}
use Rattle.tree_code.specs.declared.operator.WordOp.TheVariants as word
use Rattle.tree_code.specs.WordTree as tree
use Rattle.tree_code.specs.WordTree.{ExprCode, Node, Named, At}
use Rattle.acc_code.specs.declared.operand.AccOperand.{AccOperand}
use Rattle.acc_code.specs.declared.operand.AccOperand.TheVariants as operand
use Rattle.acc_code.specs.declared.operation.AccOp.TheVariants as row
use Rattle.acc_code.specs.declared.operation.Test.TheVariants as test
use Rattle.acc_code.specs.AccTree.{Op, If, Break, end, ◌▸◌}
use Rattle.acc_select.specs.Selected.{code_of, test_items}
use Rattle.acc_operations.specs.Words.{lac, sacl, bare}

-- names of the filter: s, acc, i and p are its frame scalars 0 to 3, and 4 is its first temporary; x is a static array
abbrev node : tree.FormCode → ExprCode
node form = Node form 0

abbrev x : ExprCode
x = node (tree.AddressOf (Static 1))

abbrev read : ℕ → ExprCode
read n = node (tree.Read (Scalar n))

abbrev number : ℕ → ExprCode
number n = node (tree.Const n)

abbrev add : ExprCode → ExprCode → ExprCode
add a b = node (tree.Binary word.Add a b)

abbrev scalar : ℕ → AccOperand
scalar n = operand.Scalar n

abbrev address : AccOperand
address = operand.Address (Static 1) 0

-- x[i] = x[i - 1]
shift : (code_of (node (tree.Assign (At (add x (read 2)) 0) (node (tree.Load (add x (node (tree.Binary word.Sub (read 2) (number 1)))))))) 4).effect
    ≡ Op (row.Lalk 0) address ▸ Op (row.Add 0) (scalar 2) ▸ sacl (scalar 4)
    ▸ lac (scalar 2) ▸ Op row.Subk (operand.Number 1) ▸ Op (row.Adlk 0) address ▸ bare row.Point ▸ lac operand.Pointed
    ▸ sacl (operand.Scratch 0) ▸ lac (scalar 4) ▸ bare row.Point ▸ lac (operand.Scratch 0) ▸ sacl operand.Pointed ▸ end
shift = refl

-- acc += x[i] * *p++
product : (code_of (node (tree.AssignOp word.Add (Named (Scalar 1) 0) (node (tree.Binary word.Mul (node (tree.Load (add x (read 2)))) (node (tree.Load (node (tree.StepAfter true (Named (Scalar 3) 0))))))))) 4).effect
    ≡ lac (scalar 1) ▸ sacl (scalar 4)
    ▸ Op (row.Lalk 0) address ▸ Op (row.Add 0) (scalar 2) ▸ bare row.Point ▸ lac operand.Pointed ▸ sacl (scalar 5)
    ▸ lac (scalar 3) ▸ bare row.Point ▸ Op row.Addk (operand.Number 1) ▸ sacl (scalar 3) ▸ Op row.Lt operand.Pointed ▸ Op row.Mpy (scalar 5) ▸ bare row.Pac
    ▸ Op (row.Add 0) (scalar 4) ▸ sacl (scalar 1) ▸ end
product = refl

-- i < 16
less : test_items (node (tree.Binary word.LtInt (read 2) (number 16))) 4 ≡ lac (scalar 2) ▸ Op row.Subk (operand.Number 16) ▸ If test.Lz end (Break ▸ end) ▸ end
less = refl
