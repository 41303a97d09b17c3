-- The byte of an operand names that operand, and an operand that a byte names has that byte.
use Rattle.std.proofs.Common.{◌≡◌, ℕ, ◌+◌, ◌-◌, ◌*◌, ◌/◌, ◌%◌, ◌<◌, ◌≤◌, Option, Some, None, IfSome, refl, sym, ap, ◌∙◌, arith, eqb-true, ltb-true, ltb-false}
use Rattle.std.specs.Prelude.{◌==◌, nat_lt, if◌then◌else◌}
use Rattle.std.proofs.lemmas.Bool.{lt-ltb, le-ltb, cond-true, cond-false, cond_both}
use Rattle.c25_isa.specs.declared.operand.Change.{Change}
use Rattle.c25_isa.specs.declared.operand.Change.TheVariants.{Stay, Down, Up, DownIndex, UpIndex}
use Rattle.c25_isa.specs.declared.operand.Indirect.{Indirect}
use Rattle.c25_isa.specs.declared.operand.Operand.{Operand}
use Rattle.c25_isa.specs.declared.operand.Operand.TheVariants as operand
use Rattle.c25_isa.specs.Table.{IsNext, IsIndirect, IsOperand, change_code, next_code, indirect_byte, operand_byte}
use Rattle.c25_isa.specs.Decode.{change_of, next_of, indirect_with, indirect_of, operand_of, through}
use Rattle.c25_isa.proofs.Cases.{at_below}

-- the high four bits of a change's code
abbrev change_high : Change → ℕ
change_high Stay = 8
change_high Down = 9
change_high Up = 10
change_high DownIndex = 13
change_high UpIndex = 14

change_code-is : (change : Change) → change_code change ≡ change_high change * 16
change_code-is Stay = refl
change_code-is Down = refl
change_code-is Up = refl
change_code-is DownIndex = refl
change_code-is UpIndex = refl

change_high-fits : (change : Change) → (8 ≤ change_high change) × (change_high change < 15)
change_high-fits Stay = (omega arith, omega arith)
change_high-fits Down = (omega arith, omega arith)
change_high-fits Up = (omega arith, omega arith)
change_high-fits DownIndex = (omega arith, omega arith)
change_high-fits UpIndex = (omega arith, omega arith)

change_of-high : (change : Change) → change_of (change_high change) ≡ Some change
change_of-high Stay = refl
change_of-high Down = refl
change_of-high Up = refl
change_of-high DownIndex = refl
change_of-high UpIndex = refl

next_code-lt : (next : Option ℕ) → IsNext next → next_code next < 16
next_code-lt None h = omega arith
next_code-lt (Some register) h = omega arith

next_of-code : (next : Option ℕ) → IsNext next → next_of (next_code next) ≡ Some next
next_of-code None h = refl
next_of-code (Some register) h = at_below (λ n. next_of (8 + n) ≡ Some (Some n)) 8 ((((((((tt, refl), refl), refl), refl), refl), refl), refl), refl) register h

-- an indirect byte is from 80h to ffh
pub indirect_byte-fits : (i : Indirect) → IsIndirect i → (128 ≤ indirect_byte i) × (indirect_byte i < 256)
indirect_byte-fits i h =
    let high = change_high-fits i.change in
    let low = next_code-lt i.next h in
    (omega (arith, change_code-is i.change, high.0), omega (arith, change_code-is i.change, high.1, low))

pub indirect_of-indirect_byte : (i : Indirect) → IsIndirect i → indirect_of (indirect_byte i) ≡ Some i
indirect_of-indirect_byte i h =
    let small = next_code-lt i.next h in
    let high : indirect_byte i / 16 ≡ change_high i.change = omega (arith, change_code-is i.change, small) in
    let low : indirect_byte i % 16 ≡ next_code i.next = omega (arith, change_code-is i.change, small) in
    ap (λ n. indirect_with (change_of n) (next_of (indirect_byte i % 16))) high
    ∙ ap (λ n. indirect_with (change_of (change_high i.change)) (next_of n)) low
    ∙ ap (λ c. indirect_with c (next_of (next_code i.next))) (change_of-high i.change)
    ∙ ap (indirect_with (Some i.change)) (next_of-code i.next h)

pub operand_of-operand_byte : (o : Operand) → IsOperand o → operand_of (operand_byte o) ≡ Some o
operand_of-operand_byte (operand.Direct offset) h = cond-true _ _ _ (lt-ltb offset 128 h)
operand_of-operand_byte (operand.Indirect i) h =
    cond-false (nat_lt (indirect_byte i) 128) _ _ (le-ltb (indirect_byte i) 128 (indirect_byte-fits i h).0)
    ∙ ap through (indirect_of-indirect_byte i h)

pub operand_byte-lt : (o : Operand) → IsOperand o → operand_byte o < 256
operand_byte-lt (operand.Direct offset) h = omega arith
operand_byte-lt (operand.Indirect i) h = (indirect_byte-fits i h).1

-- how the register changes, with the code of that change
change_of-fits : (high : ℕ) → IfSome (change_of high) (λ c. change_code c ≡ high * 16)
change_of-fits high =
    is 8 Stay _ refl (
    is 9 Down _ refl (
    is 10 Up _ refl (
    is 13 DownIndex _ refl (
    is 14 UpIndex _ refl (
    tt)))))
  where
    is : (k : ℕ) (c : Change) (other : Option Change) → change_code c ≡ k * 16 → IfSome other (λ d. change_code d ≡ high * 16) → IfSome (if high == k then Some c else other) (λ d. change_code d ≡ high * 16)
    is k c other at rest = cond_both (high == k) (Some c) other (λ o. IfSome o (λ d. change_code d ≡ high * 16)) (λ e. let same : high ≡ k = eqb-true high k e in omega (arith, same, at)) (λ e. rest)

next_of-fits : (low : ℕ) → low < 16 → IfSome (next_of low) (λ n. IsNext n × (next_code n ≡ low))
next_of-fits low lt =
    cond_both (low == 0) (Some None) (if nat_lt low 8 then None else Some (Some (low - 8))) (λ o. IfSome o (λ n. IsNext n × (next_code n ≡ low)))
    (λ e. let zero : low ≡ 0 = eqb-true low 0 e in (tt, sym zero))
    (λ e. cond_both (nat_lt low 8) None (Some (Some (low - 8))) (λ o. IfSome o (λ n. IsNext n × (next_code n ≡ low)))
    (λ e. tt)
    (λ e. let le : 8 ≤ low = ltb-false low 8 e in (omega (arith, le), omega (arith, le))))

-- an indirect operand that a byte names has that byte
pub indirect_of-fits : (byte : ℕ) → byte < 256 → IfSome (indirect_of byte) (λ i. IsIndirect i × (indirect_byte i ≡ byte))
indirect_of-fits byte lt = both (change_of (byte / 16)) (next_of (byte % 16)) (change_of-fits (byte / 16)) (next_of-fits (byte % 16) (omega arith))
  where
    both : (c : Option Change) (n : Option (Option ℕ)) → IfSome c (λ d. change_code d ≡ byte / 16 * 16) → IfSome n (λ m. IsNext m × (next_code m ≡ byte % 16)) → IfSome (indirect_with c n) (λ i. IsIndirect i × (indirect_byte i ≡ byte))
    both None n h k = tt
    both (Some c) None h k = tt
    both (Some c) (Some n) h k = (k.0, omega (arith, h, k.1))

pub operand_of-fits : (byte : ℕ) → byte < 256 → IfSome (operand_of byte) (λ o. IsOperand o × (operand_byte o ≡ byte))
operand_of-fits byte lt =
    cond_both (nat_lt byte 128) (Some (operand.Direct byte)) (through (indirect_of byte)) (λ o. IfSome o (λ o. IsOperand o × (operand_byte o ≡ byte)))
    (λ e. (ltb-true byte 128 e, refl))
    (λ e. by (indirect_of byte) (indirect_of-fits byte lt))
  where
    by : (found : Option Indirect) → IfSome found (λ i. IsIndirect i × (indirect_byte i ≡ byte)) → IfSome (through found) (λ o. IsOperand o × (operand_byte o ≡ byte))
    by None h = tt
    by (Some i) h = h
