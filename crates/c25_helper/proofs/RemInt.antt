-- `.remint`: the remainder of words with a sign.
use Rattle.std.proofs.Common.{◌≡◌, ℕ, ◌+◌, ◌*◌, ◌/◌, ◌%◌, ◌^◌, ◌<◌, ◌≤◌, true, [], ◌∷◌, ◌++◌, List, refl, ap, ◌∙◌, arith}
use Rattle.std.proofs.Math.Nat.{mod-le}
use Rattle.c25_isa.specs.declared.operand.Operand.TheVariants.{Direct}
use Rattle.c25_isa.specs.declared.instruction.JumpOp.TheVariants.{Blz, Bgez}
use Rattle.c25_isa.specs.declared.instruction.Instr.TheVariants.{Lac, Zals, Subc, Sacl, Sach, Ldpk, Lack, Rptk, Ssxm, Neg, Ret}
use Rattle.c25_isa.specs.declared.piece.PieceItem.{PieceItem}
use Rattle.c25_isa.specs.declared.piece.PieceItem.TheVariants.{Do, Mark, Jump}
use Rattle.c25_isa.specs.State.{Memory, write}
use Rattle.c25_isa.specs.Step.{wrap16, wrap32, minus}
use Rattle.c25_helper.specs.declared.routine.Routine.TheVariants.{RemInt}
use Rattle.c25_helper.specs.Routines.{no_change, remint_items}
use Rattle.c25_helper.specs.Results.{HelperWithin}
use Rattle.c25_helper.proofs.Quotients.{size, negated, size_most}
use Rattle.c25_helper.proofs.Loads.{loaded, loaded_word, loaded_negated, is_negative, is_positive}
use Rattle.c25_helper.proofs.Signs.{SignedRemainder, signed_remainder}
use Rattle.c25_helper.proofs.SizeWays.{size_back}
use Rattle.c25_helper.proofs.Ways.{SameOutside, scratch_written, Visit, StandThere, begun, busy, GoesBack, Back, FromMark, wider, code_back, jump_back, from_mark, division_back, return_back, call_back}

-- its parts, the last one first
abbrev none : List PieceItem
none = Do (Lack 0) ∷ Do Ret ∷ []

abbrev greatest : List PieceItem
greatest = Do (Lac 0 (Direct 0)) ∷ Jump Blz 5 no_change ∷ Do (Lac 0 (Direct 2)) ∷ Do Ret ∷ Mark 5 ∷ none

abbrev turned : List PieceItem
turned = Do (Lac 0 (Direct 0)) ∷ Do Neg ∷ Do Ret ∷ Mark 4 ∷ greatest

abbrev plain : List PieceItem
plain = Do (Lac 0 (Direct 0)) ∷ Do Ret ∷ Mark 3 ∷ turned

abbrev divided : List PieceItem
divided = Do (Sach 0 (Direct 0)) ∷ Do (Lac 0 (Direct 2)) ∷ Jump Blz 3 no_change ∷ plain

abbrev divides : List PieceItem
divides = Do (Zals (Direct 0)) ∷ Do (Rptk 15) ∷ Do (Subc (Direct 3)) ∷ divided

abbrev sized : List PieceItem
sized = Do (Sacl 0 (Direct 0)) ∷ Do (Lac 0 (Direct 3)) ∷ Jump Blz 4 no_change ∷ divides

abbrev left_sized : List PieceItem
left_sized = Do (Sacl 0 (Direct 3)) ∷ Do (Lac 0 (Direct 0)) ∷ Do (Sacl 0 (Direct 2)) ∷ Jump Bgez 2 no_change ∷ Do Neg ∷ Mark 2 ∷ sized

-- what stands before each mark
abbrev to_left : List PieceItem
to_left = Do (Ldpk 6) ∷ Do Ssxm ∷ Do (Lac 0 (Direct 1)) ∷ Jump Bgez 1 no_change ∷ Do Neg ∷ []

abbrev to_sized : List PieceItem
to_sized = to_left ++ Mark 1 ∷ Do (Sacl 0 (Direct 3)) ∷ Do (Lac 0 (Direct 0)) ∷ Do (Sacl 0 (Direct 2)) ∷ Jump Bgez 2 no_change ∷ Do Neg ∷ []

abbrev to_turned : List PieceItem
to_turned =
    to_sized
    ++ Mark 2 ∷ Do (Sacl 0 (Direct 0)) ∷ Do (Lac 0 (Direct 3)) ∷ Jump Blz 4 no_change ∷ Do (Zals (Direct 0)) ∷ Do (Rptk 15) ∷ Do (Subc (Direct 3)) ∷ Do (Sach 0 (Direct 0)) ∷ Do (Lac 0 (Direct 2)) ∷ Jump Blz 3 no_change ∷ Do (Lac 0 (Direct 0)) ∷ Do Ret ∷ []

abbrev to_greatest : List PieceItem
to_greatest = to_turned ++ Mark 3 ∷ Do (Lac 0 (Direct 0)) ∷ Do Neg ∷ Do Ret ∷ []

abbrev to_none : List PieceItem
to_none = to_greatest ++ Mark 4 ∷ Do (Lac 0 (Direct 0)) ∷ Jump Blz 5 no_change ∷ Do (Lac 0 (Direct 2)) ∷ Do Ret ∷ []

module _ (v : Visit) (entry : ℕ) (stands : StandThere v entry remint_items) (left : v.caller.ram 0x300 < 65536) (right : v.caller.ram 0x301 < 65536) (is : SignedRemainder (v.caller.ram 0x300) (v.caller.ram 0x301) v.value) where
  abbrev l : ℕ
  l = v.caller.ram 0x300

  abbrev r : ℕ
  r = v.caller.ram 0x301

  -- the remainder of the sizes is in 0300h
  plain_back : (m : Memory) → SameOutside m v.caller.ram → m 0x300 < 65536 → m 0x300 ≡ v.value → (acc : ℕ) → Back v plain 3 (busy v acc m)
  plain_back m same lt answers acc =
      code_back v (Lac 0 (Direct 0) ∷ []) (Do Ret ∷ Mark 3 ∷ turned) 2 (busy v acc m) (omega arith) (search arith) (refl, tt) refl
      (return_back v (Mark 3 ∷ turned) 1 true v.caller.t (loaded (m 0x300)) m (loaded_word (m 0x300) lt ∙ answers) same)

  turned_back : (m : Memory) → SameOutside m v.caller.ram → m 0x300 < 65536 → negated (m 0x300) ≡ v.value → (acc : ℕ) → FromMark v 3 3 (busy v acc m)
  turned_back m same lt answers acc =
      from_mark v to_turned turned 3 3 entry (busy v acc m) stands
      (code_back v (Lac 0 (Direct 0) ∷ Neg ∷ []) (Do Ret ∷ Mark 4 ∷ greatest) 1 (busy v acc m) (omega arith) (search arith) (refl, (tt, tt)) refl
      (return_back v (Mark 4 ∷ greatest) 0 true v.caller.t (minus 0 (loaded (m 0x300))) m (loaded_negated (m 0x300) lt ∙ answers) same))

  -- the divisor is of the greatest size
  none_back : (m : Memory) → SameOutside m v.caller.ram → 0 ≡ v.value → (acc : ℕ) → FromMark v 5 2 (busy v acc m)
  none_back m same answers acc =
      from_mark v to_none none 5 2 entry (busy v acc m) stands
      (code_back v (Lack 0 ∷ []) (Do Ret ∷ []) 1 (busy v acc m) (omega arith) (search arith) (tt, tt) refl (return_back v [] 0 true v.caller.t 0 m answers same))

  greatest_back : (m : Memory) → SameOutside m v.caller.ram → m 0x300 ≡ size l → m 0x302 ≡ l → 32768 ≤ size r → (acc : ℕ) → FromMark v 4 4 (busy v acc m)
  greatest_back m same size_is left_is great acc =
      let lt : m 0x300 < 65536 = omega (arith, size_most l left, size_is) in
      from_mark v to_greatest greatest 4 4 entry (busy v acc m) stands
      (code_back v (Lac 0 (Direct 0) ∷ []) (Jump Blz 5 no_change ∷ Do (Lac 0 (Direct 2)) ∷ Do Ret ∷ Mark 5 ∷ none) 3 (busy v acc m) (omega arith) (search arith) (refl, tt) refl
      (jump_back v Blz 5 (Do (Lac 0 (Direct 2)) ∷ Do Ret ∷ Mark 5 ∷ none) 2 (busy v (loaded (m 0x300)) m) (omega arith)
      (λ e. none_back m same (is.none great (omega (arith, is_negative (m 0x300) lt e, size_is))) (loaded (m 0x300)))
      (λ e.
      code_back v (Lac 0 (Direct 2) ∷ []) (Do Ret ∷ Mark 5 ∷ none) 1 (busy v (loaded (m 0x300)) m) (omega arith) (search arith) (refl, tt) refl
      (return_back v (Mark 5 ∷ none) 0 true v.caller.t (loaded (m 0x302)) m (loaded_word (m 0x302) (omega (arith, left, left_is)) ∙ left_is ∙ is.left great (omega (arith, is_positive (m 0x300) lt e, size_is))) same))))

  -- the high half of ACC is the remainder of the sizes
  divided_back : (m : Memory) → SameOutside m v.caller.ram → m 0x302 ≡ l → (after : ℕ) → after / 65536 ≡ size l % size r → Back v divided 6 (busy v after m)
  divided_back m same left_is after rest =
      let q : wrap32 (after * 2 ^ 0) / 65536 ≡ size l % size r = omega (arith, rest, mod-le (size l) (size r), size_most l left) in
      let kept : SameOutside (write m 0x300 (wrap32 (after * 2 ^ 0) / 65536)) v.caller.ram = scratch_written m v.caller.ram 0x300 (wrap32 (after * 2 ^ 0) / 65536) (omega arith) (omega arith) same in
      let lt : m 0x302 < 65536 = omega (arith, left, left_is) in
      code_back v (Sach 0 (Direct 0) ∷ Lac 0 (Direct 2) ∷ []) (Jump Blz 3 no_change ∷ plain) 4 (busy v after m) (omega arith) (search arith) (refl, (refl, tt)) refl
      (jump_back v Blz 3 plain 3 (busy v (loaded (m 0x302)) (write m 0x300 (wrap32 (after * 2 ^ 0) / 65536))) (omega arith)
      (λ e. turned_back _ kept (omega arith) (ap negated q ∙ is.turned (omega (arith, is_negative (m 0x302) lt e, left_is))) (loaded (m 0x302)))
      (λ e. plain_back _ kept (omega arith) (q ∙ is.plain (omega (arith, is_positive (m 0x302) lt e, left_is))) (loaded (m 0x302))))

  divides_back : (m : Memory) → SameOutside m v.caller.ram → m 0x300 ≡ size l → m 0x302 ≡ l → m 0x303 ≡ size r → size r < 32768 → (acc : ℕ) → Back v divides 24 (busy v acc m)
  divides_back m same size_is left_is right_is low acc =
      code_back v (Zals (Direct 0) ∷ []) (Do (Rptk 15) ∷ Do (Subc (Direct 3)) ∷ divided) 23 (busy v acc m) (omega arith) (search arith) (refl, tt) refl
      (division_back v 3 divided 6 (m 0x300) m (omega arith) refl (omega arith) (omega (arith, size_most l left, size_is)) (omega (arith, is.some, right_is)) (omega (arith, low, right_is))
      (λ after quotient rest. divided_back m same left_is after (rest ∙ ap (λ n. n % m 0x303) size_is ∙ ap (λ n. size l % n) right_is)))

  -- ACC is the size of the left word, and then of the right one
  sized_back : (m : Memory) → SameOutside m v.caller.ram → m 0x302 ≡ l → m 0x303 ≡ size r → (acc : ℕ) → wrap16 (acc * 2 ^ 0) ≡ size l → FromMark v 2 27 (busy v acc m)
  sized_back m same left_is right_is acc size_is =
      let kept : SameOutside (write m 0x300 (wrap16 (acc * 2 ^ 0))) v.caller.ram = scratch_written m v.caller.ram 0x300 (wrap16 (acc * 2 ^ 0)) (omega arith) (omega arith) same in
      let lt : m 0x303 < 65536 = omega (arith, size_most r right, right_is) in
      from_mark v to_sized sized 2 27 entry (busy v acc m) stands
      (code_back v (Sacl 0 (Direct 0) ∷ Lac 0 (Direct 3) ∷ []) (Jump Blz 4 no_change ∷ divides) 25 (busy v acc m) (omega arith) (search arith) (refl, (refl, tt)) refl
      (jump_back v Blz 4 divides 24 (busy v (loaded (m 0x303)) (write m 0x300 (wrap16 (acc * 2 ^ 0)))) (omega arith)
      (λ e. wider v 4 24 (omega arith) (greatest_back _ kept size_is left_is (omega (arith, is_negative (m 0x303) lt e, right_is)) (loaded (m 0x303))))
      (λ e. divides_back _ kept size_is left_is right_is (omega (arith, is_positive (m 0x303) lt e, right_is)) (loaded (m 0x303)))))

  left_sized_back : (acc : ℕ) → wrap16 (acc * 2 ^ 0) ≡ size r → FromMark v 1 32 (busy v acc v.caller.ram)
  left_sized_back acc right_is =
      let ram : Memory = v.caller.ram in
      let m : Memory = write ram 0x303 (wrap16 (acc * 2 ^ 0)) in
      from_mark v to_left left_sized 1 32 entry (busy v acc ram) stands
      (code_back v (Sacl 0 (Direct 3) ∷ Lac 0 (Direct 0) ∷ Sacl 0 (Direct 2) ∷ []) (Jump Bgez 2 no_change ∷ Do Neg ∷ Mark 2 ∷ sized) 29 (busy v acc ram) (omega arith) (search arith) (refl, (refl, (refl, tt))) refl
      (size_back v 2 sized 27 l (write m 0x302 (wrap16 (loaded l * 2 ^ 0))) (omega arith) left
      (sized_back _ (scratch_written m ram 0x302 _ (omega arith) (omega arith) (scratch_written ram ram 0x303 _ (omega arith) (omega arith) (λ a out. refl))) (omega (arith, loaded_word l left)) right_is)))

  all_back : GoesBack v entry 37 (begun v)
  all_back =
      code_back v (Ldpk 6 ∷ Ssxm ∷ Lac 0 (Direct 1) ∷ []) (Jump Bgez 1 no_change ∷ Do Neg ∷ Mark 1 ∷ left_sized) 34 (begun v) (omega arith) (search arith) (tt, (tt, (refl, tt))) refl
      (size_back v 1 left_sized 32 r v.caller.ram (omega arith) right left_sized_back)
      entry stands

pub rem_int : HelperWithin RemInt remint_items
rem_int = record {
  by = λ program marks names entry pc w value stands here below short left right is.
      let v : Visit = record { program = program; marks = marks; names = names; caller = w; back = pc + 2; value = value } in
      call_back v entry pc 37 here refl below short (omega arith) (all_back v entry stands left right (signed_remainder (w.ram 0x300) (w.ram 0x301) value left right is));
}
