-- `.shruns`: the shift of a word to the right, with zeros behind it.
use Rattle.std.proofs.Common.{◌≡◌, ℕ, ◌+◌, ◌-◌, ◌*◌, ◌/◌, ◌%◌, ◌^◌, ◌<◌, ◌≤◌, false, List, [], ◌∷◌, refl, sym, ap, ◌∙◌, arith}
use Rattle.std.proofs.Math.Nat.{div-le_self, mul-div-mul_right, pow-le-pow_right}
use Rattle.std.proofs.lemmas.Nat.{mul-le, pow-add, pow_pos}
use Rattle.word_base.specs.Words.{Good}
use Rattle.c25_isa.specs.declared.operand.Operand.TheVariants.{Direct}
use Rattle.c25_isa.specs.declared.instruction.Instr.{Instr}
use Rattle.c25_isa.specs.declared.instruction.Instr.TheVariants.{Sub, Lac, Lt, Lact, Sacl, Sach, Ldpk, Lack, Rsxm, Ret}
use Rattle.c25_isa.specs.declared.piece.PieceItem.TheVariants.{Do}
use Rattle.c25_isa.specs.Step.{wrap16, wrap32, minus}
use Rattle.c25_helper.specs.declared.routine.Routine.TheVariants.{ShrUnsigned}
use Rattle.c25_helper.specs.Routines.{shift_items}
use Rattle.c25_helper.specs.Results.{HelperWithin}
use Rattle.c25_helper.proofs.ShrInt.{counted}
use Rattle.c25_helper.proofs.Ways.{Visit, StandThere, begun, GoesBack, scratch_written, code_back, return_back, call_back}

abbrev body : List Instr
body =
    Ldpk 6
    ∷ Rsxm
    ∷ Lack 15
    ∷ Sub 0 (Direct 1)
    ∷ Sacl 0 (Direct 2)
    ∷ Lt (Direct 2)
    ∷ Lact (Direct 0)
    ∷ Sach 1 (Direct 2)
    ∷ Lac 0 (Direct 2)
    ∷ []

-- the count's distance from 15, as it is stored
abbrev distance : ℕ → ℕ
distance count = wrap16 (minus 15 (wrap32 (count * 2 ^ 0)) * 2 ^ 0)

distance_is : (count : ℕ) → count < 16 → distance count % 16 ≡ 15 - count
distance_is count lt = omega arith

-- up by the distance and one more, the word above is the shifted one
moved : (word count : ℕ) → word < 65536 → count < 16 → wrap32 (wrap32 (word * 2 ^ (15 - count)) * 2 ^ 1) / 65536 ≡ word / 2 ^ count
moved word count fits lt =
    let p : ℕ = 2 ^ (15 - count) in
    let fifteen : count + (15 - count) ≡ 15 = omega arith in
    let most : p ≤ 32768 = pow-le-pow_right {n = 2} (omega arith) {i = 15 - count} {j = 15} (omega arith) in
    let product : word * p ≤ 65535 * 32768 = mul-le word p 65535 32768 (omega arith) most in
    let whole : 2 ^ count * p ≡ 32768 = sym (pow-add 2 count (15 - count)) ∙ ap (λ n. 2 ^ n) fifteen in
    let some : 0 < p * 2 = omega (arith, pow_pos (15 - count)) in
    let once : word * p * 2 ≡ word * (p * 2) = grind arith in
    let twice : 2 ^ count * p * 2 ≡ 2 ^ count * (p * 2) = grind arith in
    let wide : wrap32 (wrap32 (word * p) * 2 ^ 1) ≡ word * p * 2 = omega (arith, product) in
    let plain : wrap32 (wrap32 (word * p) * 2 ^ 1) ≡ word * (p * 2) = wide ∙ once in
    let all : 65536 ≡ 2 ^ count * (p * 2) = sym (ap (λ n. n * 2) whole) ∙ twice in
    ap (λ n. n / 65536) plain ∙ ap (λ n. word * (p * 2) / n) all ∙ mul-div-mul_right word (2 ^ count) some

module _ (v : Visit) (entry : ℕ) (stands : StandThere v entry (shift_items Rsxm)) (left : v.caller.ram 0x300 < 65536) where
  abbrev word : ℕ
  word = v.caller.ram 0x300

  abbrev count : ℕ
  count = v.caller.ram 0x301

  abbrev stored : ℕ
  stored = wrap32 (wrap32 (word * 2 ^ (distance count % 16)) * 2 ^ 1) / 65536

  answers : count < 16 → word / 2 ^ count ≡ v.value → wrap16 (wrap32 (stored * 2 ^ 0)) ≡ v.value
  answers lt is =
      let shifted : stored ≡ word / 2 ^ count = ap (λ d. wrap32 (wrap32 (word * 2 ^ d) * 2 ^ 1) / 65536) (distance_is count lt) ∙ moved word count left lt in
      omega (arith, shifted, is, div-le_self word (2 ^ count), left)

  all_back : count < 16 → word / 2 ^ count ≡ v.value → GoesBack v entry 10 (begun v)
  all_back lt is =
      code_back v body (Do Ret ∷ []) 1 (begun v) (omega arith) (search arith) (tt, (tt, (tt, (refl, (refl, (refl, (refl, (refl, (refl, tt))))))))) refl
      (return_back v [] 0 false _ _ _ (answers lt is) (scratch_written _ v.caller.ram 0x302 _ (omega arith) (omega arith) (scratch_written v.caller.ram v.caller.ram 0x302 _ (omega arith) (omega arith) (λ a out. refl))))
      entry stands

pub shr_unsigned : HelperWithin ShrUnsigned (shift_items Rsxm)
shr_unsigned = record {
  by = λ program marks names entry pc w value stands here below short left right is.
      let parts = counted (w.ram 0x301) value (Good (w.ram 0x300 / 2 ^ w.ram 0x301)) is in
      let shifted : Good (w.ram 0x300 / 2 ^ w.ram 0x301) ≡ Good value = parts.1 in
      let same : w.ram 0x300 / 2 ^ w.ram 0x301 ≡ value = cc in
      let v : Visit = record { program = program; marks = marks; names = names; caller = w; back = pc + 2; value = value } in
      call_back v entry pc 10 here refl below short (omega arith) (all_back v entry stands left parts.0 same);
}
