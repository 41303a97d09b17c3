-- Items that may be used as they are, and others: a number and a value of a case of 17 bits.
use Rattle.std.proofs.Common.{◌<◌, [], ◌∷◌, arith}
use Rattle.acc_code.specs.AccTree.{Op, Switch, end, ◌▸◌}
use Rattle.acc_code.specs.Emittable.{Throughout}
use Rattle.acc_code.specs.declared.item.CaseLabel.TheVariants.{Value, Default}
use Rattle.acc_code.specs.declared.operand.AccOperand.TheVariants as operand
use Rattle.acc_code.specs.declared.operation.AccOp.TheVariants as row
use Rattle.image_proof.specs.Usable.{IsUsableItem}

stored_through : IsUsableItem (Op (row.Sacl 0) operand.Pointed)
stored_through = tt

taken_through : IsUsableItem (Op (row.In 3) operand.Pointed)
taken_through = tt

widest : IsUsableItem (Op row.Andk (operand.Number 65535))
widest = omega arith

too_wide : IsUsableItem (Op row.Andk (operand.Number 65536)) → ⊥
too_wide h = let below : 65536 < 65536 = h in omega (arith, below)

wide_case : IsUsableItem (Switch (Default ∷ Value 65536 ∷ []) end) → ⊥
wide_case h = let below : 65536 < 65536 = h.1.0 in omega (arith, below)

-- in a switch too
wide_within : Throughout IsUsableItem (Switch (Value 1 ∷ []) (Op row.Andk (operand.Number 65536) ▸ end) ▸ end) → ⊥
wide_within h = let below : 65536 < 65536 = h.1.0 in omega (arith, below)
