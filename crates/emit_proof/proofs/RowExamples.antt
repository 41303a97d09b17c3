-- Rows by hand, each beside what accumulator code says of it: word 3 of page 6 is FFFFh, each other word is 3, and T is 17 and P 70000.
use Rattle.std.proofs.Common.{◌≡◌, ℕ, Bool, true, false, [], ◌∷◌, Option, Some, None, cond, refl}
use Rattle.std.specs.Prelude.{◌==◌}
use Rattle.c25_isa.specs.declared.operand.Change.TheVariants.{Up}
use Rattle.c25_isa.specs.declared.operand.Operand.TheVariants.{Direct, Indirect as Through}
use Rattle.c25_code.specs.Work.{Work}
use Rattle.c25_code.specs.Straight.{behind_instr}
use Rattle.acc_code.specs.declared.operation.AccOp.{AccOp}
use Rattle.acc_code.specs.declared.operation.AccOp.TheVariants as row
use Rattle.ir_semantics.specs.AccRows.{Acc, Gone, Low, Whole, Registers, low_half, low_stored, acted}
use Rattle.emit_blocks.specs.Instructions.{word_instr, constant_instr}
use Rattle.emit_proof.specs.Registers.{RegistersAlike}

abbrev machine : ℕ → Bool → Work
machine acc sxm = record {
  acc = acc;
  t = 17;
  p = 70000;
  ar = λ n. 768;
  arp = 2;
  dp = 6;
  sxm = sxm;
  stack = [];
  ram = λ a. cond (a == 771) 65535 3;
  input = λ port. cond (port == 1) (8 ∷ 9 ∷ []) [];
}

abbrev registers : Acc → Option Bool → Registers
registers a sxm = record { acc = a; t = Some 17; p = Some 70000; sxm = sxm; pointed = None }

-- the row on word 3 of page 6 does what is known of it
record DoesOnWord (o : AccOp) (a b : Acc) (known : Option Bool) (acc : ℕ) (sxm : Bool) (behind : ℕ) : Type 0 where
  acts : acted o 65535 (registers a known) ≡ Some (registers b known)
  machine_has : (behind_instr (word_instr o (Direct 3)) (machine acc sxm)).acc ≡ behind
  alike : RegistersAlike (registers b known) (behind_instr (word_instr o (Direct 3)) (machine acc sxm))

-- ADD to 10005h, of which 5 is known, with SXM set and not known: 10004h, of which 4 is known; and with SXM clear 20004h
add_unknown : DoesOnWord (row.Add 0) (Low 5) (Low 4) None 65541 true 65540
add_unknown = record { acts = refl; machine_has = refl; alike = record { acc = refl; t = refl; p = refl; sxm = tt } }

add_zeros : DoesOnWord (row.Add 0) (Low 5) (Low 4) None 65541 false 131076
add_zeros = record { acts = refl; machine_has = refl; alike = record { acc = refl; t = refl; p = refl; sxm = tt } }

-- SUBS from 5, all bits known, and XOR of a known low half
subtract_whole : DoesOnWord row.Subs (Whole 5) (Whole 4294901766) (Some true) 5 true 4294901766
subtract_whole = record { acts = refl; machine_has = refl; alike = record { acc = refl; t = refl; p = refl; sxm = refl } }

xor_low : DoesOnWord row.Xor (Low 15) (Low 65520) (Some false) 4294901775 false 4294967280
xor_low = record { acts = refl; machine_has = refl; alike = record { acc = refl; t = refl; p = refl; sxm = refl } }

-- MPYK by -2
product_of_constant : (behind_instr (constant_instr row.Mpyk 65534) (machine 0 true)).p ≡ 4294967262
product_of_constant = refl

product_known : acted row.Mpyk 65534 (registers Gone None) ≡ Some (record (registers Gone None) { p = Some 4294967262 })
product_known = refl

-- SACL with a shift of 1, of an accumulator whose low half is 8003h; and through AR2
stores_low : (behind_instr (word_instr (row.Sacl 1) (Direct 2)) (machine 98307 true)).ram 770 ≡ 6
stores_low = refl

stores_known : low_stored (low_half (Low 32771)) 1 ≡ Some 6
stores_known = refl

stores_through : (behind_instr (word_instr (row.Sacl 1) (Through (record { change = Up; next = None }))) (machine 98307 true)).ram 768 ≡ 6
stores_through = refl

-- IN from port 1
takes_first : (behind_instr (word_instr (row.In 1) (Direct 2)) (machine 0 true)).ram 770 ≡ 8
takes_first = refl

leaves_second : (behind_instr (word_instr (row.In 1) (Direct 2)) (machine 0 true)).input 1 ≡ 9 ∷ []
leaves_second = refl
