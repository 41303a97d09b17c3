-- `.shrint`: the shift of a word to the right, with its sign copied.
use Rattle.std.proofs.Common.{◌≡◌, ℕ, ◌+◌, ◌<◌, Bool, true, false, [], ◌∷◌, refl, sym, ◌∙◌, cond, arith, ltb-true}
use Rattle.std.specs.Prelude.{nat_lt}
use Rattle.word_base.specs.Words.{Calc, Good, Bad, with_count, int_shift_right}
use Rattle.word_base.specs.declared.outcome.UndefinedKind.TheVariants.{ShiftCount}
use Rattle.c25_isa.specs.declared.instruction.Instr.TheVariants.{Ssxm, Ret}
use Rattle.c25_isa.specs.declared.piece.PieceItem.TheVariants.{Do}
use Rattle.c25_isa.specs.Step.{wrap16}
use Rattle.c25_code.specs.Straight.{behind_code}
use Rattle.c25_code.specs.Routines.{shift_body}
use Rattle.c25_code.proofs.Shift.{shift_ready, shift_means}
use Rattle.c25_helper.specs.declared.routine.Routine.TheVariants.{ShrInt}
use Rattle.c25_helper.specs.Routines.{shift_items}
use Rattle.c25_helper.specs.Results.{HelperWithin}
use Rattle.c25_helper.proofs.Ways.{Visit, StandThere, begun, GoesBack, scratch_written, code_back, return_back, call_back}

-- a value by a count: it is below 16
pub counted : (count v : ℕ) (z : Calc) → with_count count z ≡ Good v → (count < 16) × (z ≡ Good v)
counted count v z e = by (nat_lt count 16) refl e
  where
    by : (b : Bool) → nat_lt count 16 ≡ b → cond b z (Bad ShiftCount) ≡ Good v → (count < 16) × (z ≡ Good v)
    by true f g = (ltb-true count 16 f, g)
    by false f g = absurd cc

all_back : (v : Visit) (entry : ℕ) → StandThere v entry (shift_items Ssxm) → v.caller.ram 0x300 < 65536 → int_shift_right (v.caller.ram 0x300) (v.caller.ram 0x301) ≡ Good v.value → GoesBack v entry 10 (begun v)
all_back v entry stands left is =
    let count = counted (v.caller.ram 0x301) v.value _ is in
    let good : Good (wrap16 (behind_code shift_body (begun v)).acc) ≡ Good v.value = sym (shift_means (begun v) left count.0) ∙ is in
    let answers : wrap16 (behind_code shift_body (begun v)).acc ≡ v.value = cc in
    code_back v shift_body (Do Ret ∷ []) 1 (begun v) (omega arith) (shift_ready (begun v)) (tt, (tt, (tt, (refl, (refl, (refl, (refl, (refl, (refl, tt))))))))) refl
    (return_back v [] 0 true _ _ _ answers (scratch_written _ v.caller.ram 0x302 _ (omega arith) (omega arith) (scratch_written v.caller.ram v.caller.ram 0x302 _ (omega arith) (omega arith) (λ a out. refl))))
    entry stands

pub shr_int : HelperWithin ShrInt (shift_items Ssxm)
shr_int = record {
  by = λ program marks names entry pc w value stands here below short left right is.
      let v : Visit = record { program = program; marks = marks; names = names; caller = w; back = pc + 2; value = value } in
      call_back v entry pc 10 here refl below short (omega arith) (all_back v entry stands left is);
}
