-- Pieces by hand that the laws speak of, and bodies that they exclude.
use Rattle.std.proofs.Common.{◌≡◌, true, false, inl, inr, [], ◌∷◌, List, None, refl, codes, rules}
use Rattle.c25_isa.specs.declared.instruction.Instr.TheVariants as instr
use Rattle.c25_isa.specs.declared.instruction.JumpOp.TheVariants as jump
use Rattle.c25_isa.specs.declared.piece.PieceItem.{PieceItem}
use Rattle.c25_isa.specs.declared.piece.PieceItem.TheVariants.{Do, Mark}
use Rattle.c25_code.specs.Links.{IsMarkOf, MarksDiffer}
use Rattle.acc_code.specs.declared.item.CaseLabel.TheVariants.{Value, Default}
use Rattle.acc_code.specs.declared.operand.AccOperand.TheVariants as operand
use Rattle.acc_code.specs.declared.operand.HelperName.TheVariants.{DivInt}
use Rattle.acc_code.specs.declared.operation.AccOp.TheVariants as row
use Rattle.acc_code.specs.AccTree.{Op, Loop, Switch, Case, Call, Helper, Break, ItemList, end, ◌▸◌}
use Rattle.acc_code.specs.Emittable.{IsPlaced}
use Rattle.emit_control.specs.Cuts.{jump_item, call_item, function_items}
use Rattle.emit_control.specs.Settings.{Setting}
use Rattle.emit_proof.specs.Calls.{IsJumpTo, StandsIn}

abbrev setting : Setting
setting = record {
  places = record { scalars = record { register = 2; address = 0x332 } ∷ []; statics = []; locals = []; parameters = []; step = 1 };
  lengths = [];
  back = None;
  names = codes "f" ∷ [];
}

abbrev made : ItemList → List PieceItem
made body = function_items setting body

-- switch (s) { case 5: f(); break; default: a division }
abbrev chooses : ItemList
chooses = Switch (Value 5 ∷ Default ∷ []) (Case 0 ▸ Call 0 ▸ Break ▸ Case 1 ▸ Helper DivInt ▸ end) ▸ end

chooses_placed : IsPlaced false false false chooses
chooses_placed = search rules

chooses_piece : made chooses ≡
    Do (instr.Subk 5) ∷ jump_item jump.Bz 2 ∷ jump_item jump.B 3 ∷ Mark 2 ∷ call_item (codes "f") ∷ jump_item jump.B 0 ∷ Mark 3 ∷ call_item (codes ".divint") ∷ Mark 0 ∷ Do instr.Ret ∷ []
chooses_piece = refl

-- the default's label: named by the last jump of the choice, and marked
default_named : IsJumpTo 3 (made chooses)
default_named = inr (inl refl)

default_marked : IsMarkOf 3 (made chooses)
default_marked = inr (inl refl)

call_stands : StandsIn (Call 0) chooses
call_stands = inr (inl (inr (inr (inl refl))))

-- do s; while (0), with an access behind it: no jump of the body names the head, so its end does
abbrev once_round : ItemList
once_round = Loop end (Op (row.Lac 0) (operand.Scalar 0) ▸ end) (Break ▸ end) true ▸ Op (row.Lac 0) (operand.Scalar 0) ▸ end

once_placed : IsPlaced false false false once_round
once_placed = search rules

once_named : IsJumpTo 2 (made once_round)
once_named = inr (inr (inl refl))

once_marked : IsMarkOf 2 (made once_round)
once_marked = inl refl

-- a case that stands twice has two marks, and one that stands nowhere has none
twice : MarksDiffer (made (Switch (Value 5 ∷ []) (Case 0 ▸ Case 0 ▸ end) ▸ end)) → ⊥
twice h = h.0 (inl refl)

nowhere : IsJumpTo 2 (made (Switch (Value 5 ∷ []) end ▸ end))
nowhere = inl refl

no_mark : IsMarkOf 2 (made (Switch (Value 5 ∷ []) end ▸ end)) → ⊥
no_mark (inl e) = cc e
no_mark (inr h) = h
