-- The accesses of accumulator code, by hand.
use Rattle.std.proofs.Common.{◌≡◌, ℕ, [], ◌∷◌, refl}
use Rattle.std.specs.Prelude.{true}
use Rattle.c_tree.specs.declared.program.VarRef.TheVariants.{Local, Static}
use Rattle.acc_code.specs.declared.item.CaseLabel.TheVariants.{Default}
use Rattle.acc_code.specs.declared.operand.AccOperand.TheVariants as operand
use Rattle.acc_code.specs.declared.operand.HelperName.TheVariants as helper
use Rattle.acc_code.specs.declared.operation.AccOp.TheVariants as row
use Rattle.acc_code.specs.declared.operation.Test.TheVariants.{Nz}
use Rattle.acc_code.specs.AccTree.{Item, Op, If, Loop, Switch, Case, Clear, Call, Helper, Break, Continue, Return, end, ◌▸◌}
use Rattle.acc_code.specs.AccSequence.{blocks_of}

abbrev read : ℕ → Item
read n = Op (row.Lac 0) (operand.Scalar n)

-- no access, and other operands alone
none : blocks_of end ≡ []
none = refl

others : blocks_of (Op row.Lack (operand.Number 1) ▸ Op (row.Sacl 0) (operand.Direct (Static 0)) ▸ Op (row.Lac 0) operand.Pointed ▸ Op (row.Sacl 0) (operand.Param 0 1) ▸ end) ≡ []
others = refl

-- neighbours are one block, across other operations too
neighbours : blocks_of (read 0 ▸ Op (row.Sacl 0) (operand.Scratch 0) ▸ read 1 ▸ read 0 ▸ end) ≡ (0 ∷ 1 ∷ 0 ∷ []) ∷ []
neighbours = refl

-- each item that isn't an operation is a cut
cuts : blocks_of (read 0 ▸ Call 1 ▸ read 1 ▸ Helper helper.DivInt ▸ read 2 ▸ Clear (Local 0) 1 ▸ read 3 ▸ Return ▸ read 4 ▸ end) ≡ (0 ∷ []) ∷ (1 ∷ []) ∷ (2 ∷ []) ∷ (3 ∷ []) ∷ (4 ∷ []) ∷ []
cuts = refl

-- both parts of an If, and what stands behind it
choice : blocks_of (read 0 ▸ If Nz (read 1 ▸ end) (read 2 ▸ end) ▸ read 3 ▸ end) ≡ (0 ∷ []) ∷ (1 ∷ []) ∷ (2 ∷ []) ∷ (3 ∷ []) ∷ []
choice = refl

-- empty parts leave no block
empty : blocks_of (read 0 ▸ If Nz end (Break ▸ end) ▸ read 1 ▸ end) ≡ (0 ∷ []) ∷ (1 ∷ []) ∷ []
empty = refl

-- the three parts of a loop
loop : blocks_of (read 0 ▸ Loop (read 1 ▸ end) (read 2 ▸ Continue ▸ read 3 ▸ end) (read 4 ▸ end) true ▸ read 5 ▸ end)
    ≡ (0 ∷ []) ∷ (1 ∷ []) ∷ (2 ∷ []) ∷ (3 ∷ []) ∷ (4 ∷ []) ∷ (5 ∷ []) ∷ []
loop = refl

-- a switch, with a cut at each label
switch : blocks_of (read 0 ▸ Switch (Default ∷ []) (read 1 ▸ read 2 ▸ Case 0 ▸ read 3 ▸ end) ▸ read 4 ▸ end) ≡ (0 ∷ []) ∷ (1 ∷ 2 ∷ []) ∷ (3 ∷ []) ∷ (4 ∷ []) ∷ []
switch = refl
