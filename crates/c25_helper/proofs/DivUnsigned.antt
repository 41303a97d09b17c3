-- `.divuns`: the quotient of words without a sign.
use Rattle.std.proofs.Common.{◌≡◌, ℕ, ◌+◌, ◌-◌, ◌*◌, ◌/◌, ◌<◌, ◌≤◌, true, [], ◌∷◌, ◌++◌, List, refl, ap, ◌∙◌, sym, arith}
use Rattle.std.proofs.lemmas.Nat.{div-mul-add}
use Rattle.std.proofs.Math.Nat.{div-eq_of_lt}
use Rattle.c25_isa.specs.declared.operand.Operand.TheVariants.{Direct}
use Rattle.c25_isa.specs.declared.instruction.JumpOp.TheVariants.{Blz}
use Rattle.c25_isa.specs.declared.instruction.Instr.TheVariants.{Lac, Zals, Subs, Subc, Ldpk, Lack, Rptk, Ssxm, Ret}
use Rattle.c25_isa.specs.declared.piece.PieceItem.{PieceItem}
use Rattle.c25_isa.specs.declared.piece.PieceItem.TheVariants.{Do, Mark, Jump}
use Rattle.c25_isa.specs.State.{Memory}
use Rattle.c25_isa.specs.Step.{minus}
use Rattle.c25_helper.specs.declared.routine.Routine.TheVariants.{DivUnsigned}
use Rattle.c25_helper.specs.Routines.{no_change, divuns_items}
use Rattle.c25_helper.specs.Results.{HelperWithin}
use Rattle.c25_helper.proofs.Quotients.{unsigned_quotient_is}
use Rattle.c25_helper.proofs.Loads.{loaded, is_negative, is_positive, is_less, is_not_less}
use Rattle.c25_helper.proofs.Ways.{Visit, StandThere, begun, busy, GoesBack, Back, FromMark, wider, code_back, jump_back, from_mark, division_back, return_back, call_back}

-- its parts, the last one first
abbrev none : List PieceItem
none = Do (Lack 0) ∷ Do Ret ∷ []

abbrev one : List PieceItem
one = Do (Lack 1) ∷ Do Ret ∷ Mark 2 ∷ none

abbrev large : List PieceItem
large = Do (Zals (Direct 0)) ∷ Do (Subs (Direct 1)) ∷ Jump Blz 2 no_change ∷ one

abbrev small : List PieceItem
small = Do (Zals (Direct 0)) ∷ Do (Rptk 15) ∷ Do (Subc (Direct 1)) ∷ Do Ret ∷ Mark 1 ∷ large

abbrev before_large : List PieceItem
before_large = Do (Ldpk 6) ∷ Do Ssxm ∷ Do (Lac 0 (Direct 1)) ∷ Jump Blz 1 no_change ∷ Do (Zals (Direct 0)) ∷ Do (Rptk 15) ∷ Do (Subc (Direct 1)) ∷ Do Ret ∷ []

abbrev before_none : List PieceItem
before_none = before_large ++ Mark 1 ∷ Do (Zals (Direct 0)) ∷ Do (Subs (Direct 1)) ∷ Jump Blz 2 no_change ∷ Do (Lack 1) ∷ Do Ret ∷ []

-- the quotient by a divisor that has bit 15 is 1 or 0
once : (l r : ℕ) → r ≤ l → 32768 ≤ r → l < 65536 → l / r ≡ 1
once l r le high lt = let e : l ≡ 1 * r + (l - r) = omega arith in ap (λ n. n / r) e ∙ div-mul-add 1 r (l - r) (omega arith)

module _ (v : Visit) (entry : ℕ) (stands : StandThere v entry divuns_items) (left : v.caller.ram 0x300 < 65536) (right : v.caller.ram 0x301 < 65536) (some : 1 ≤ v.caller.ram 0x301)
    (is : v.caller.ram 0x300 / v.caller.ram 0x301 ≡ v.value) where
  abbrev ram : Memory
  ram = v.caller.ram

  abbrev l : ℕ
  l = ram 0x300

  abbrev r : ℕ
  r = ram 0x301

  none_back : l < r → (acc : ℕ) → FromMark v 2 2 (busy v acc ram)
  none_back less acc =
      from_mark v before_none none 2 2 entry (busy v acc ram) stands
      (code_back v (Lack 0 ∷ []) (Do Ret ∷ []) 1 (busy v acc ram) (omega arith) (search arith) (tt, tt) refl
      (return_back v [] 0 true v.caller.t 0 ram (sym (div-eq_of_lt less) ∙ is) (λ a out. refl)))

  one_back : r ≤ l → 32768 ≤ r → (acc : ℕ) → Back v one 2 (busy v acc ram)
  one_back le high acc =
      code_back v (Lack 1 ∷ []) (Do Ret ∷ Mark 2 ∷ none) 1 (busy v acc ram) (omega arith) (search arith) (tt, tt) refl
      (return_back v (Mark 2 ∷ none) 0 true v.caller.t 1 ram (sym (once l r le high left) ∙ is) (λ a out. refl))

  large_back : 32768 ≤ r → (acc : ℕ) → FromMark v 1 5 (busy v acc ram)
  large_back high acc =
      from_mark v before_large large 1 5 entry (busy v acc ram) stands
      (code_back v (Zals (Direct 0) ∷ Subs (Direct 1) ∷ []) (Jump Blz 2 no_change ∷ one) 3 (busy v acc ram) (omega arith) (search arith) (refl, (refl, tt)) refl
      (jump_back v Blz 2 one 2 (busy v (minus l r) ram) (omega arith)
      (λ e. none_back (is_less l r left right e) (minus l r))
      (λ e. one_back (is_not_less l r left right e) high (minus l r))))

  small_back : r < 32768 → (acc : ℕ) → Back v small 19 (busy v acc ram)
  small_back low acc =
      code_back v (Zals (Direct 0) ∷ []) (Do (Rptk 15) ∷ Do (Subc (Direct 1)) ∷ Do Ret ∷ Mark 1 ∷ large) 18 (busy v acc ram) (omega arith) (search arith) (refl, tt) refl
      (division_back v 1 (Do Ret ∷ Mark 1 ∷ large) 1 l ram (omega arith) refl (omega arith) left some low
      (λ after quotient rest. return_back v (Mark 1 ∷ large) 0 true v.caller.t after ram (quotient ∙ is) (λ a out. refl)))

  all_back : GoesBack v entry 23 (begun v)
  all_back =
      code_back v (Ldpk 6 ∷ Ssxm ∷ Lac 0 (Direct 1) ∷ []) (Jump Blz 1 no_change ∷ small) 20 (begun v) (omega arith) (search arith) (tt, (tt, (refl, tt))) refl
      (jump_back v Blz 1 small 19 (busy v (loaded r) ram) (omega arith)
      (λ e. wider v 5 19 (omega arith) (large_back (is_negative r right e) (loaded r)))
      (λ e. small_back (is_positive r right e) (loaded r)))
      entry stands

pub div_unsigned : HelperWithin DivUnsigned divuns_items
div_unsigned = record {
  by = λ program marks names entry pc w value stands here below short left right is.
      let parts = unsigned_quotient_is (w.ram 0x300) (w.ram 0x301) value is in
      let v : Visit = record { program = program; marks = marks; names = names; caller = w; back = pc + 2; value = value } in
      call_back v entry pc 23 here refl below short (omega arith) (all_back v entry stands left right parts.0 parts.1);
}
