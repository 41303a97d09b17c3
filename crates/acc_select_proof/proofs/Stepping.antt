-- One more, or one less; and that no address is a count of a shift.
use Rattle.std.proofs.Common.{◌≡◌, ℕ, ◌+◌, ◌-◌, ◌%◌, ◌<◌, ◌≤◌, Bool, true, false, Option, Some, None, refl, sym, ◌∙◌, subst, arith, pos, ◌-ℤ◌}
use Rattle.word_base.specs.Words.{Good, low16}
use Rattle.c_tree.specs.declared.program.VarRef.{VarRef}
use Rattle.acc_code.specs.declared.operand.AccOperand.TheVariants as operand
use Rattle.acc_code.specs.declared.operation.AccOp.TheVariants as row
use Rattle.acc_code.specs.AccTree.{end, ◌▸◌}
use Rattle.acc_select.specs.acc_operations.declared.constant.Constant.TheVariants.{Address}
use Rattle.acc_select.specs.acc_operations.declared.high_half.HighHalf.TheVariants.{Any}
use Rattle.acc_select.specs.Forms.{step_row, undo_row}
use Rattle.c25_isa.specs.Step as step
use Rattle.ir_semantics.specs.TreeRun.{Addresses, stepped}
use Rattle.ir_semantics.specs.AccRows.{Whole, low_half, combined}
use Rattle.ir_semantics.specs.AccRun.{Machine, Context, cell_at}
pub use Rattle.acc_select_proof.specs.Selecting.{AreFar}
use Rattle.acc_select_proof.proofs.Straights.{ConstantIs, Straight}
use Rattle.acc_select_proof.proofs.Sides.{some_is}
use Rattle.acc_select_proof.proofs.Arithmetics.{less_word}
use Rattle.acc_select_proof.proofs.Following.{InAcc, Turns}
use Rattle.acc_select_proof.proofs.Summing.{acts, exact_sum, exact_difference}
use Rattle.acc_select_proof.proofs.SelectOperating.{IsNoCount, good_is}

-- what a step makes of a word, and back
up_is : (x z : ℕ) → stepped true x ≡ Good z → (x + 1) % 65536 ≡ z
up_is x z e = good_is ((x + 1) % 65536) z e

down_is : (x z : ℕ) → x < 65536 → stepped false x ≡ Good z → (x + (65536 - 1)) % 65536 ≡ z
down_is x z lx e = sym (less_word x 1 lx (omega arith)) ∙ good_is (low16 (pos x -ℤ pos 1)) z e

pub step-lt : (up : Bool) (x z : ℕ) → x < 65536 → stepped up x ≡ Good z → z < 65536
step-lt true x z lx e = let i = up_is x z e in omega (arith, i)
step-lt false x z lx e = let i = down_is x z lx e in omega (arith, i)

module _ (c : Context) where
  one_more : (x z : ℕ) (u : Machine) → low_half u.registers.acc ≡ Some x → u.registers.sxm ≡ Some true → (x + 1) % 65536 ≡ z → Straight c (step_row true ▸ end) u 2 (λ t. InAcc Any z t.registers.acc)
  one_more x z u low s is =
      acts c row.Addk (operand.Number 1) u 1 2 (InAcc Any z) (λ u. refl) refl s (omega arith)
      (record { combination = combined step.plus u.registers.acc (Whole 1); is = refl; turns = subst (λ i. Turns (combined step.plus u.registers.acc (Whole 1)) (InAcc Any i)) is (exact_sum u x 1 s low (omega arith)) })

  one_less : (x z : ℕ) (u : Machine) → low_half u.registers.acc ≡ Some x → u.registers.sxm ≡ Some true → (x + (65536 - 1)) % 65536 ≡ z → Straight c (step_row false ▸ end) u 2 (λ t. InAcc Any z t.registers.acc)
  one_less x z u low s is =
      acts c row.Subk (operand.Number 1) u 1 2 (InAcc Any z) (λ u. refl) refl s (omega arith)
      (record { combination = combined step.minus u.registers.acc (Whole 1); is = refl; turns = subst (λ i. Turns (combined step.minus u.registers.acc (Whole 1)) (InAcc Any i)) is (exact_difference u x 1 s low (omega arith)) })

  -- behind a word
  pub step_left : (up : Bool) (x z : ℕ) (u : Machine) → low_half u.registers.acc ≡ Some x → u.registers.sxm ≡ Some true → x < 65536 → stepped up x ≡ Good z → Straight c (step_row up ▸ end) u 2 (λ t. InAcc Any z t.registers.acc)
  step_left true x z u low s lx e = one_more x z u low s (up_is x z e)
  step_left false x z u low s lx e = one_less x z u low s (down_is x z lx e)

  -- and the word before it
  pub step_undone : (up : Bool) (x z : ℕ) (u : Machine) → low_half u.registers.acc ≡ Some z → u.registers.sxm ≡ Some true → x < 65536 → stepped up x ≡ Good z → Straight c (undo_row up ▸ end) u 2 (λ t. InAcc Any x t.registers.acc)
  step_undone true x z u low s lx e = let i = up_is x z e in one_less z x u low s (omega (arith, i, lx))
  step_undone false x z u low s lx e = let i = down_is x z lx e in one_more z x u low s (omega (arith, i, lx))

far_by : (at : Addresses) (v : VarRef) (a : Option ℕ) (y : ℕ) → AreFar at → at v ≡ a → cell_at a 0 ≡ Some y → 16 ≤ y
far_by at v None y far is e = absurd cc
far_by at v (Some a) y far is e = let i = some_is e in let k = far v a is in omega (arith, i, k)

pub address_is_no_count : (at : Addresses) (v : VarRef) (y : ℕ) → AreFar at → ConstantIs at (Address v 0) y → IsNoCount (Address v 0) y
address_is_no_count at v y far e = far_by at v (at v) y far refl e
