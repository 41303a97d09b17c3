-- `.remuns`: the remainder of words without a sign.
use Rattle.std.proofs.Common.{◌≡◌, ℕ, ◌+◌, ◌-◌, ◌*◌, ◌/◌, ◌%◌, ◌^◌, ◌<◌, ◌≤◌, true, [], ◌∷◌, ◌++◌, List, refl, ap, ◌∙◌, sym, arith}
use Rattle.std.proofs.lemmas.Nat.{mod-mul-add}
use Rattle.std.proofs.Math.Nat.{mod-eq_of_lt, mod-le}
use Rattle.c25_isa.specs.declared.operand.Operand.TheVariants.{Direct}
use Rattle.c25_isa.specs.declared.instruction.JumpOp.TheVariants.{Blz, Bgez}
use Rattle.c25_isa.specs.declared.instruction.Instr.TheVariants.{Lac, Zals, Subs, Subc, Sach, Ldpk, Rptk, Ssxm, Ret}
use Rattle.c25_isa.specs.declared.piece.PieceItem.{PieceItem}
use Rattle.c25_isa.specs.declared.piece.PieceItem.TheVariants.{Do, Mark, Jump}
use Rattle.c25_isa.specs.State.{Memory, write}
use Rattle.c25_isa.specs.Step.{wrap16, wrap32, minus}
use Rattle.c25_helper.specs.declared.routine.Routine.TheVariants.{RemUnsigned}
use Rattle.c25_helper.specs.Routines.{no_change, remuns_items}
use Rattle.c25_helper.specs.Results.{HelperWithin}
use Rattle.c25_helper.proofs.Quotients.{unsigned_remainder_is}
use Rattle.c25_helper.proofs.Loads.{loaded, loaded_word, high_word, at_least_taken, at_least_passed, is_negative, is_positive, is_less, is_not_less}
use Rattle.c25_helper.proofs.Ways.{Visit, StandThere, begun, busy, scratch_written, GoesBack, Back, FromMark, wider, code_back, jump_back, mark_back, from_mark, division_back, return_back, call_back}

-- its parts, the last one first
abbrev less : List PieceItem
less = Do (Lac 0 (Direct 0)) ∷ Mark 2 ∷ Do Ret ∷ []

abbrev large : List PieceItem
large = Do (Zals (Direct 0)) ∷ Do (Subs (Direct 1)) ∷ Jump Bgez 2 no_change ∷ less

abbrev stored : List PieceItem
stored = Do (Sach 0 (Direct 2)) ∷ Do (Lac 0 (Direct 2)) ∷ Do Ret ∷ Mark 1 ∷ large

abbrev small : List PieceItem
small = Do (Zals (Direct 0)) ∷ Do (Rptk 15) ∷ Do (Subc (Direct 1)) ∷ stored

abbrev before_large : List PieceItem
before_large = Do (Ldpk 6) ∷ Do Ssxm ∷ Do (Lac 0 (Direct 1)) ∷ Jump Blz 1 no_change ∷ Do (Zals (Direct 0)) ∷ Do (Rptk 15) ∷ Do (Subc (Direct 1)) ∷ Do (Sach 0 (Direct 2)) ∷ Do (Lac 0 (Direct 2)) ∷ Do Ret ∷ []

abbrev before_return : List PieceItem
before_return = before_large ++ Mark 1 ∷ Do (Zals (Direct 0)) ∷ Do (Subs (Direct 1)) ∷ Jump Bgez 2 no_change ∷ Do (Lac 0 (Direct 0)) ∷ []

-- by a divisor that has bit 15 it is the difference, or the dividend
once : (l r : ℕ) → r ≤ l → 32768 ≤ r → l < 65536 → l % r ≡ l - r
once l r le high lt = let e : l ≡ 1 * r + (l - r) = omega arith in ap (λ n. n % r) e ∙ mod-mul-add 1 r (l - r) (omega arith)

module _ (v : Visit) (entry : ℕ) (stands : StandThere v entry remuns_items) (left : v.caller.ram 0x300 < 65536) (right : v.caller.ram 0x301 < 65536) (some : 1 ≤ v.caller.ram 0x301)
    (is : v.caller.ram 0x300 % v.caller.ram 0x301 ≡ v.value) where
  abbrev ram : Memory
  ram = v.caller.ram

  abbrev l : ℕ
  l = ram 0x300

  abbrev r : ℕ
  r = ram 0x301

  end_back : (acc : ℕ) → wrap16 acc ≡ v.value → FromMark v 2 1 (busy v acc ram)
  end_back acc answers = from_mark v before_return (Do Ret ∷ []) 2 1 entry (busy v acc ram) stands (return_back v [] 0 true v.caller.t acc ram answers (λ a out. refl))

  less_back : l < r → (acc : ℕ) → Back v less 2 (busy v acc ram)
  less_back lt acc =
      code_back v (Lac 0 (Direct 0) ∷ []) (Mark 2 ∷ Do Ret ∷ []) 1 (busy v acc ram) (omega arith) (search arith) (refl, tt) refl
      (mark_back v 2 (Do Ret ∷ []) 1 (busy v (loaded l) ram) (end_back (loaded l) (loaded_word l left ∙ sym (mod-eq_of_lt lt) ∙ is)))

  large_back : 32768 ≤ r → (acc : ℕ) → FromMark v 1 5 (busy v acc ram)
  large_back high acc =
      from_mark v before_large large 1 5 entry (busy v acc ram) stands
      (code_back v (Zals (Direct 0) ∷ Subs (Direct 1) ∷ []) (Jump Bgez 2 no_change ∷ less) 3 (busy v acc ram) (omega arith) (search arith) (refl, (refl, tt)) refl
      (jump_back v Bgez 2 less 2 (busy v (minus l r) ram) (omega arith)
      (λ e. let le : r ≤ l = is_not_less l r left right (at_least_taken (minus l r) e) in
      let difference : wrap16 (minus l r) ≡ l - r = omega (arith, left) in
      wider v 1 2 (omega arith) (end_back (minus l r) (difference ∙ sym (once l r le high left) ∙ is)))
      (λ e. less_back (is_less l r left right (at_least_passed (minus l r) e)) (minus l r))))

  small_back : r < 32768 → (acc : ℕ) → Back v small 21 (busy v acc ram)
  small_back low acc =
      code_back v (Zals (Direct 0) ∷ []) (Do (Rptk 15) ∷ Do (Subc (Direct 1)) ∷ stored) 20 (busy v acc ram) (omega arith) (search arith) (refl, tt) refl
      (division_back v 1 stored 3 l ram (omega arith) refl (omega arith) left some low
      (λ after quotient rest.
      code_back v (Sach 0 (Direct 2) ∷ Lac 0 (Direct 2) ∷ []) (Do Ret ∷ Mark 1 ∷ large) 1 (busy v after ram) (omega arith) (search arith) (refl, (refl, tt)) refl
      (return_back v (Mark 1 ∷ large) 0 true v.caller.t (loaded (wrap32 (after * 2 ^ 0) / 65536)) (write ram 0x302 (wrap32 (after * 2 ^ 0) / 65536))
      (high_word after (l % r) rest (omega (arith, mod-le l r, left)) ∙ is)
      (scratch_written ram ram 0x302 (wrap32 (after * 2 ^ 0) / 65536) (omega arith) (omega arith) (λ a out. refl)))))

  all_back : GoesBack v entry 25 (begun v)
  all_back =
      code_back v (Ldpk 6 ∷ Ssxm ∷ Lac 0 (Direct 1) ∷ []) (Jump Blz 1 no_change ∷ small) 22 (begun v) (omega arith) (search arith) (tt, (tt, (refl, tt))) refl
      (jump_back v Blz 1 small 21 (busy v (loaded r) ram) (omega arith)
      (λ e. wider v 5 21 (omega arith) (large_back (is_negative r right e) (loaded r)))
      (λ e. small_back (is_positive r right e) (loaded r)))
      entry stands

pub rem_unsigned : HelperWithin RemUnsigned remuns_items
rem_unsigned = record {
  by = λ program marks names entry pc w value stands here below short left right is.
      let parts = unsigned_remainder_is (w.ram 0x300) (w.ram 0x301) value is in
      let v : Visit = record { program = program; marks = marks; names = names; caller = w; back = pc + 2; value = value } in
      call_back v entry pc 25 here refl below short (omega arith) (all_back v entry stands left right parts.0 parts.1);
}
