-- The instruction that words are read as stands at these words.
use Rattle.std.proofs.Common.{◌≡◌, inl, inr, ℕ, ◌+◌, ◌-◌, ◌*◌, ◌/◌, ◌%◌, ◌<◌, ◌≤◌, pos, negsuc, Option, Some, None, IfSome, refl, sym, ap, arith, eqb-true, ltb-true, ltb-false}
use Rattle.std.specs.Prelude.{◌==◌, nat_lt, if◌then◌else◌}
use Rattle.std.proofs.lemmas.Bool.{cond_both}
use Rattle.c25_isa.specs.declared.operand.Indirect.{Indirect}
use Rattle.c25_isa.specs.declared.operand.Operand.{Operand}
use Rattle.c25_isa.specs.declared.instruction.JumpOp.{JumpOp}
use Rattle.c25_isa.specs.declared.instruction.JumpOp.TheVariants as jump
use Rattle.c25_isa.specs.declared.instruction.Instr.{Instr}
use Rattle.c25_isa.specs.declared.instruction.Instr.TheVariants.{Add, Sub, Lac, Lar, Mpy, Lt, Zals, Lact, Subs, Subc, Adds, Rpt, Xor, Or, And, Pshd, Mar, Sacl, Sach, Sar, Popd, Adrk, Sbrk, In, Mpyk, Lark, Ldpk, Lack, Rptk, Addk, Subk, Dint, Rovm, Rsxm, Ssxm, Spm, Pac, Apac, Spac, Sfl, Sfr, Idle, Neg, Ret, Cmpl, Lrlk, Lalk, Adlk, Sblk, Andk, Ork, Xork, Out, Branch, Call}
use Rattle.c25_isa.specs.Rows.{jump_word}
use Rattle.c25_isa.specs.Table.{IsIndirect, IsOperand, IsInstr, indirect_byte, operand_byte, first_word, second_word, length_of, StandsFor}
use Rattle.c25_isa.specs.Decode.{Decoded, one_word, with_operand, with_indirect, with_target, signed13, indirect_of, operand_of, decode_3, decode_4, decode_5, decode_6, decode_7, decode_ce, decode_c, decode_d, jump_of, decode_jump, decode_f, decode_parts, decode}
use Rattle.c25_isa.proofs.Operands.{indirect_of-fits, operand_of-fits}

-- what is decoded, if anything, stands at two words
abbrev Row : Decoded → ℕ → ℕ → Type 0
Row found first second = IfSome found (λ d. StandsFor d.0 d.1 first second)

module _ (first second : ℕ) where
  of_one : (i : Instr) → IsInstr i → first_word i ≡ first → second_word i ≡ None → StandsFor i 1 first second
  of_one i fits is none = record { fits = fits; first_is = is; second_is = inl none; length_is = ap length_of (sym none) }

  of_two : (i : Instr) → IsInstr i → first_word i ≡ first → second_word i ≡ Some second → StandsFor i 2 first second
  of_two i fits is some = record { fits = fits; first_is = is; second_is = inr some; length_is = ap length_of (sym some) }

  -- a row that is chosen by a number, and one that is chosen below a number
  where_is : (n k : ℕ) (x y : Decoded) → (n ≡ k → Row x first second) → Row y first second → Row (if n == k then x else y) first second
  where_is n k x y found other = cond_both (n == k) x y (λ d. Row d first second) (λ e. found (eqb-true n k e)) (λ e. other)

  where_below : (n k : ℕ) (x y : Decoded) → (n < k → Row x first second) → (k ≤ n → Row y first second) → Row (if nat_lt n k then x else y) first second
  where_below n k x y found other = cond_both (nat_lt n k) x y (λ d. Row d first second) (λ e. found (ltb-true n k e)) (λ e. other (ltb-false n k e))

  -- a row with an operand
  over : (make : Operand → Instr) (low : ℕ) → low < 256 → ((o : Operand) → IsOperand o → operand_byte o ≡ low → StandsFor (make o) 1 first second) → Row (with_operand make (operand_of low)) first second
  over make low lt row = by (operand_of low) (operand_of-fits low lt)
    where
      by : (found : Option Operand) → IfSome found (λ o. IsOperand o × (operand_byte o ≡ low)) → Row (with_operand make found) first second
      by None h = tt
      by (Some o) h = row o h.0 h.1

  over_indirect : (make : Indirect → Instr) (low : ℕ) → low < 256 → ((i : Indirect) → IsIndirect i → indirect_byte i ≡ low → StandsFor (make i) 1 first second) → Row (with_indirect make (indirect_of low)) first second
  over_indirect make low lt row = by (indirect_of low) (indirect_of-fits low lt)
    where
      by : (found : Option Indirect) → IfSome found (λ i. IsIndirect i × (indirect_byte i ≡ low)) → Row (with_indirect make found) first second
      by None h = tt
      by (Some i) h = row i h.0 h.1

  over_target : (make : Indirect → Instr) (low : ℕ) → low < 256 → ((i : Indirect) → IsIndirect i → indirect_byte i ≡ low → StandsFor (make i) 2 first second) → Row (with_target make (indirect_of low)) first second
  over_target make low lt row = by (indirect_of low) (indirect_of-fits low lt)
    where
      by : (found : Option Indirect) → IfSome found (λ i. IsIndirect i × (indirect_byte i ≡ low)) → Row (with_target make found) first second
      by None h = tt
      by (Some i) h = row i h.0 h.1

  row_3 : (n low : ℕ) → first ≡ 3 * 4096 + n * 256 + low → n < 16 → low < 256 → Row (decode_3 n low) first second
  row_3 n low whole small byte =
      where_below n 8 _ _ (λ is. over (Lar n) low byte (λ o fits at. of_one (Lar n o) (is, fits) (omega (arith, whole, at)) refl)) (λ le.
      where_is n 8 _ _ (λ is. over Mpy low byte (λ o fits at. of_one (Mpy o) fits (omega (arith, is, whole, at)) refl)) (
      where_is n 12 _ _ (λ is. over Lt low byte (λ o fits at. of_one (Lt o) fits (omega (arith, is, whole, at)) refl)) (
      tt)))

  row_4 : (n low : ℕ) → first ≡ 4 * 4096 + n * 256 + low → n < 16 → low < 256 → Row (decode_4 n low) first second
  row_4 n low whole small byte =
      where_is n 1 _ _ (λ is. over Zals low byte (λ o fits at. of_one (Zals o) fits (omega (arith, is, whole, at)) refl)) (
      where_is n 2 _ _ (λ is. over Lact low byte (λ o fits at. of_one (Lact o) fits (omega (arith, is, whole, at)) refl)) (
      where_is n 5 _ _ (λ is. over Subs low byte (λ o fits at. of_one (Subs o) fits (omega (arith, is, whole, at)) refl)) (
      where_is n 7 _ _ (λ is. over Subc low byte (λ o fits at. of_one (Subc o) fits (omega (arith, is, whole, at)) refl)) (
      where_is n 9 _ _ (λ is. over Adds low byte (λ o fits at. of_one (Adds o) fits (omega (arith, is, whole, at)) refl)) (
      where_is n 11 _ _ (λ is. over Rpt low byte (λ o fits at. of_one (Rpt o) fits (omega (arith, is, whole, at)) refl)) (
      where_is n 12 _ _ (λ is. over Xor low byte (λ o fits at. of_one (Xor o) fits (omega (arith, is, whole, at)) refl)) (
      where_is n 13 _ _ (λ is. over Or low byte (λ o fits at. of_one (Or o) fits (omega (arith, is, whole, at)) refl)) (
      where_is n 14 _ _ (λ is. over And low byte (λ o fits at. of_one (And o) fits (omega (arith, is, whole, at)) refl)) (
      tt)))))))))

  row_5 : (n low : ℕ) → first ≡ 5 * 4096 + n * 256 + low → n < 16 → low < 256 → Row (decode_5 n low) first second
  row_5 n low whole small byte =
      where_is n 4 _ _ (λ is. over Pshd low byte (λ o fits at. of_one (Pshd o) fits (omega (arith, is, whole, at)) refl)) (
      where_is n 5 _ _ (λ is. over_indirect Mar low byte (λ i fits at. of_one (Mar i) fits (omega (arith, is, whole, at)) refl)) (
      tt))

  row_6 : (n low : ℕ) → first ≡ 6 * 4096 + n * 256 + low → n < 16 → low < 256 → Row (decode_6 n low) first second
  row_6 n low whole small byte =
      where_below n 8 _ _
      (λ is. over (Sacl n) low byte (λ o fits at. of_one (Sacl n o) (is, fits) (omega (arith, whole, at)) refl))
      (λ le. over (Sach (n - 8)) low byte (λ o fits at. of_one (Sach (n - 8) o) (omega arith, fits) (omega (arith, le, whole, at)) refl))

  row_7 : (n low : ℕ) → first ≡ 7 * 4096 + n * 256 + low → n < 16 → low < 256 → Row (decode_7 n low) first second
  row_7 n low whole small byte =
      where_below n 8 _ _ (λ is. over (Sar n) low byte (λ o fits at. of_one (Sar n o) (is, fits) (omega (arith, whole, at)) refl)) (λ le.
      where_is n 10 _ _ (λ is. over Popd low byte (λ o fits at. of_one (Popd o) fits (omega (arith, is, whole, at)) refl)) (
      where_is n 14 _ _ (λ is. of_one (Adrk low) byte (omega (arith, is, whole)) refl) (
      where_is n 15 _ _ (λ is. of_one (Sbrk low) byte (omega (arith, is, whole)) refl) (
      tt))))

  row_ce : (low : ℕ) → first ≡ 0xce00 + low → Row (decode_ce low) first second
  row_ce low whole =
      where_is low 1 _ _ (λ is. of_one Dint tt (omega (arith, is, whole)) refl) (
      where_is low 2 _ _ (λ is. of_one Rovm tt (omega (arith, is, whole)) refl) (
      where_is low 6 _ _ (λ is. of_one Rsxm tt (omega (arith, is, whole)) refl) (
      where_is low 7 _ _ (λ is. of_one Ssxm tt (omega (arith, is, whole)) refl) (
      where_is low 8 _ _ (λ is. of_one Spm tt (omega (arith, is, whole)) refl) (
      where_is low 20 _ _ (λ is. of_one Pac tt (omega (arith, is, whole)) refl) (
      where_is low 21 _ _ (λ is. of_one Apac tt (omega (arith, is, whole)) refl) (
      where_is low 22 _ _ (λ is. of_one Spac tt (omega (arith, is, whole)) refl) (
      where_is low 24 _ _ (λ is. of_one Sfl tt (omega (arith, is, whole)) refl) (
      where_is low 25 _ _ (λ is. of_one Sfr tt (omega (arith, is, whole)) refl) (
      where_is low 31 _ _ (λ is. of_one Idle tt (omega (arith, is, whole)) refl) (
      where_is low 35 _ _ (λ is. of_one Neg tt (omega (arith, is, whole)) refl) (
      where_is low 38 _ _ (λ is. of_one Ret tt (omega (arith, is, whole)) refl) (
      where_is low 39 _ _ (λ is. of_one Cmpl tt (omega (arith, is, whole)) refl) (
      tt))))))))))))))

  row_c : (n low : ℕ) → first ≡ 12 * 4096 + n * 256 + low → n < 16 → low < 256 → Row (decode_c n low) first second
  row_c n low whole small byte =
      where_below n 8 _ _ (λ is. of_one (Lark n low) (is, byte) (omega (arith, whole)) refl) (λ le.
      where_below n 10 _ _ (λ is. of_one (Ldpk ((n - 8) * 256 + low)) (omega arith) (omega (arith, le, whole)) refl) (λ more.
      where_is n 10 _ _ (λ is. of_one (Lack low) byte (omega (arith, is, whole)) refl) (
      where_is n 11 _ _ (λ is. of_one (Rptk low) byte (omega (arith, is, whole)) refl) (
      where_is n 12 _ _ (λ is. of_one (Addk low) byte (omega (arith, is, whole)) refl) (
      where_is n 13 _ _ (λ is. of_one (Subk low) byte (omega (arith, is, whole)) refl) (
      where_is n 14 _ _ (λ is. row_ce low (omega (arith, is, whole))) (
      tt)))))))

  row_d : (n low : ℕ) → first ≡ 13 * 4096 + n * 256 + low → n < 16 → low < 256 → second < 65536 → Row (decode_d n low second) first second
  row_d n low whole small byte wide =
      where_is low 0 _ _ (λ is. where_below n 8 _ _ (λ lt. of_two (Lrlk n second) (lt, wide) (omega (arith, is, whole)) refl) (λ le. tt)) (
      where_is low 1 _ _ (λ is. of_two (Lalk n second) (small, wide) (omega (arith, is, whole)) refl) (
      where_is low 2 _ _ (λ is. of_two (Adlk n second) (small, wide) (omega (arith, is, whole)) refl) (
      where_is low 3 _ _ (λ is. of_two (Sblk n second) (small, wide) (omega (arith, is, whole)) refl) (
      where_is low 4 _ _ (λ is. where_is n 0 _ _ (λ zero. of_two (Andk second) wide (omega (arith, is, zero, whole)) refl) tt) (
      where_is low 5 _ _ (λ is. where_is n 0 _ _ (λ zero. of_two (Ork second) wide (omega (arith, is, zero, whole)) refl) tt) (
      where_is low 6 _ _ (λ is. where_is n 0 _ _ (λ zero. of_two (Xork second) wide (omega (arith, is, zero, whole)) refl) tt) (
      tt)))))))

  jump_of-fits : (n : ℕ) → IfSome (jump_of n) (λ op. jump_word op ≡ 0xf000 + n * 256)
  jump_of-fits n =
      jump_is n 1 jump.Bgz _ refl (
      jump_is n 2 jump.Blez _ refl (
      jump_is n 3 jump.Blz _ refl (
      jump_is n 4 jump.Bgez _ refl (
      jump_is n 5 jump.Bnz _ refl (
      jump_is n 6 jump.Bz _ refl (
      jump_is n 15 jump.B _ refl (
      tt)))))))
    where
      jump_is : (n k : ℕ) (op : JumpOp) (other : Option JumpOp) → jump_word op ≡ 0xf000 + k * 256 → IfSome other (λ o. jump_word o ≡ 0xf000 + n * 256) → IfSome (if n == k then Some op else other) (λ o. jump_word o ≡ 0xf000 + n * 256)
      jump_is n k op other at rest = cond_both (n == k) (Some op) other (λ d. IfSome d (λ o. jump_word o ≡ 0xf000 + n * 256)) (λ e. let same : n ≡ k = eqb-true n k e in omega (arith, same, at)) (λ e. rest)

  row_jump : (found : Option JumpOp) (n low : ℕ) → IfSome found (λ op. jump_word op ≡ 0xf000 + n * 256) → first ≡ 0xf000 + n * 256 + low → low < 256 → second < 65536 → Row (decode_jump found low second) first second
  row_jump None n low fit whole byte wide = tt
  row_jump (Some op) n low fit whole byte wide =
      over_target (Branch op second) low byte (λ i fits at. of_two (Branch op second i) (wide, fits) (omega (arith, fit, whole, at)) refl)

  row_f : (n low : ℕ) → first ≡ 15 * 4096 + n * 256 + low → n < 16 → low < 256 → second < 65536 → Row (decode_f n low second) first second
  row_f n low whole small byte wide =
      where_is n 14 _ _ (λ is. over_target (Call second) low byte (λ i fits at. of_two (Call second i) (wide, fits) (omega (arith, is, whole, at)) refl))
      (row_jump (jump_of n) n low (jump_of-fits n) (omega (arith, whole)) byte wide)

  -- a constant of 13 bits
  row_mpyk : (m : ℕ) → first ≡ 0xa000 + m → m < 8192 → Row (one_word (Mpyk (signed13 m))) first second
  row_mpyk m whole small = cond_both (nat_lt m 4096) (pos m) (negsuc (8191 - m)) (λ k. Row (one_word (Mpyk k)) first second)
      (λ e. of_one (Mpyk (pos m)) (ltb-true m 4096 e) (omega (arith, whole)) refl)
      (λ e. let le : 4096 ≤ m = ltb-false m 4096 e in of_one (Mpyk (negsuc (8191 - m))) (omega arith) (omega (arith, le, whole)) refl)

  row_parts : (high n low : ℕ) → first ≡ high * 4096 + n * 256 + low → n < 16 → low < 256 → second < 65536 → Row (decode_parts high n low second) first second
  row_parts high n low whole small byte wide =
      where_is high 0 _ _ (λ is. over (Add n) low byte (λ o fits at. of_one (Add n o) (small, fits) (omega (arith, is, whole, at)) refl)) (
      where_is high 1 _ _ (λ is. over (Sub n) low byte (λ o fits at. of_one (Sub n o) (small, fits) (omega (arith, is, whole, at)) refl)) (
      where_is high 2 _ _ (λ is. over (Lac n) low byte (λ o fits at. of_one (Lac n o) (small, fits) (omega (arith, is, whole, at)) refl)) (
      where_is high 3 _ _ (λ is. row_3 n low (omega (arith, is, whole)) small byte) (
      where_is high 4 _ _ (λ is. row_4 n low (omega (arith, is, whole)) small byte) (
      where_is high 5 _ _ (λ is. row_5 n low (omega (arith, is, whole)) small byte) (
      where_is high 6 _ _ (λ is. row_6 n low (omega (arith, is, whole)) small byte) (
      where_is high 7 _ _ (λ is. row_7 n low (omega (arith, is, whole)) small byte) (
      where_is high 8 _ _ (λ is. over (In n) low byte (λ o fits at. of_one (In n o) (small, fits) (omega (arith, is, whole, at)) refl)) (
      where_is high 10 _ _ (λ is. row_mpyk (n * 256 + low) (omega (arith, is, whole)) (omega arith)) (
      where_is high 11 _ _ (λ is. row_mpyk (4096 + n * 256 + low) (omega (arith, is, whole)) (omega arith)) (
      where_is high 12 _ _ (λ is. row_c n low (omega (arith, is, whole)) small byte) (
      where_is high 13 _ _ (λ is. row_d n low (omega (arith, is, whole)) small byte wide) (
      where_is high 14 _ _ (λ is. over (Out n) low byte (λ o fits at. of_one (Out n o) (small, fits) (omega (arith, is, whole, at)) refl)) (
      where_is high 15 _ _ (λ is. row_f n low (omega (arith, is, whole)) small byte wide) (
      tt)))))))))))))))

-- what is read, if anything, stands at its words
pub decode-stands : (first second : ℕ) → first < 65536 → second < 65536 → IfSome (decode first second) (λ d. StandsFor d.0 d.1 first second)
decode-stands first second narrow wide =
    let whole : first ≡ first / 4096 * 4096 + first / 256 % 16 * 256 + first % 256 = omega arith in
    row_parts first second (first / 4096) (first / 256 % 16) (first % 256) whole (omega arith) (omega arith) wide
