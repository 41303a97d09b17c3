-- Words that are found come into the accumulator.
use Rattle.std.proofs.Common.{◌≡◌, ℕ, ◌<◌, Bool, true, false, Some, refl, sym, ap, ◌∙◌, subst, arith}
use Rattle.std.specs.Prelude.{nat_lt, if◌then◌else◌}
use Rattle.std.proofs.lemmas.Bool.{ltb-true}
use Rattle.acc_code.specs.declared.operand.AccOperand.{AccOperand}
use Rattle.acc_code.specs.declared.operand.AccOperand.TheVariants as operand
use Rattle.acc_code.specs.declared.operation.AccOp.TheVariants as row
use Rattle.acc_code.specs.AccTree.{Op, end, ◌▸◌}
use Rattle.acc_select.specs.acc_operations.Constants.{load_constant, constant_high}
use Rattle.acc_select.specs.acc_operations.Words.{load, high, extend, scratch, sacl, lac}
use Rattle.acc_select.specs.acc_operations.declared.constant.Constant.{Constant}
use Rattle.acc_select.specs.acc_operations.declared.constant.Constant.TheVariants.{Number, Address}
use Rattle.acc_select.specs.acc_operations.declared.found.Found.{Found}
use Rattle.acc_select.specs.acc_operations.declared.found.Found.TheVariants.{Fixed, Held, Loaded}
use Rattle.acc_select.specs.acc_operations.declared.high_half.HighHalf.{HighHalf}
use Rattle.acc_select.specs.acc_operations.declared.high_half.HighHalf.TheVariants.{Any, Zero, Sign, Small}
use Rattle.c25_isa.specs.Step.{extended}
use Rattle.ir_semantics.specs.Outside.{with_scalar}
use Rattle.ir_semantics.specs.AccRows.{Whole, with_acc, low_half, operand_weight}
use Rattle.ir_semantics.specs.AccRun.{Machine, Context, held}
use Rattle.acc_select_proof.proofs.Straights.{Has, ConstantIs, FoundHas, found_weight, Straight, nothing_done, behind_that, at_most, operation, saved}
use Rattle.acc_select_proof.proofs.Sides.{put_here}
use Rattle.acc_select_proof.proofs.Words.{has_low, small_sign, scaled_word, constant_has}

-- a word is in the accumulator, and scratch words and T are as they were
pub record LoadedFrom (h : HighHalf) (x : ℕ) (v u : Machine) : Type 0 where
  pub acc : Has h x u.registers.acc
  pub scratch : u.scratch ≡ v.scratch
  pub t : u.registers.t ≡ v.registers.t

module _ (c : Context) where
  -- LALK and LAC extend by the sign
  signed_row : (w : ℕ) (v : Machine) → v.registers.sxm ≡ Some true → w < 65536 → LoadedFrom Sign w v (record v { registers = with_acc (Whole (extended true w)) v.registers })
  signed_row w v s lt = record { acc = refl; scratch = refl; t = refl }

  small_constant : (w : ℕ) (v : Machine) → v.registers.sxm ≡ Some true → w < 256 → Straight c (Op row.Lack (operand.Number w) ▸ end) v 2 (LoadedFrom (constant_high (Number w)) w v)
  small_constant w v s lt =
      operation c row.Lack (operand.Number w) v w (with_acc (Whole w) v.registers) (LoadedFrom (constant_high (Number w)) w v) (λ u. refl) refl refl refl s
      (record { acc = subst (λ z. Has (constant_high (Number w)) w (Whole z)) (sym (small_sign w (omega (arith, lt)))) (constant_has w (nat_lt w 32768) refl); scratch = refl; t = refl })

  -- LALK on a word that its operand stands for
  long_constant : (m : AccOperand) (h : HighHalf) (w : ℕ) (v : Machine) → operand_weight m ≡ 2 → v.registers.sxm ≡ Some true → w < 65536 → held c.at m v ≡ Some w → Has h w (Whole (extended true w))
      → Straight c (Op (row.Lalk 0) m ▸ end) v 2 (LoadedFrom h w v)
  long_constant m h w v light s lt there has =
      subst (λ k. Straight c (Op (row.Lalk 0) m ▸ end) v k (LoadedFrom h w v)) light
      (operation c (row.Lalk 0) m v w (with_acc (Whole (extended true w)) v.registers) (LoadedFrom h w v) (λ u. refl) there (ap (λ a. Some (with_acc a v.registers)) (scaled_word v.registers.sxm w s lt)) refl s (record { acc = has; scratch = refl; t = refl }))

  number_by : (b : Bool) (w : ℕ) (v : Machine) → nat_lt w 256 ≡ b → v.registers.sxm ≡ Some true → w < 65536
      → Straight c ((if b then Op row.Lack (operand.Number w) else Op (row.Lalk 0) (operand.Number w)) ▸ end) v 2 (LoadedFrom (constant_high (Number w)) w v)
  number_by true w v is s lt = small_constant w v s (ltb-true w 256 is)
  number_by false w v is s lt = long_constant (operand.Number w) (constant_high (Number w)) w v refl s lt refl (constant_has w (nat_lt w 32768) refl)

  pub constant_loaded : (k : Constant) (x : ℕ) (v : Machine) → ConstantIs c.at k x → v.registers.sxm ≡ Some true → x < 65536 → Straight c (load_constant k ▸ end) v 2 (LoadedFrom (constant_high k) x v)
  constant_loaded (Number w) x v is s lt = subst (λ y. Straight c (load_constant (Number w) ▸ end) v 2 (LoadedFrom (constant_high (Number w)) y v)) is (number_by (nat_lt w 256) w v refl s (subst (λ y. y < 65536) (sym is) lt))
  constant_loaded (Address o i) x v is s lt = long_constant (operand.Address o i) Sign x v refl s lt is refl

  pub word_loaded : (m : AccOperand) (x : ℕ) (v : Machine) → held c.at m v ≡ Some x → v.registers.sxm ≡ Some true → x < 65536 → Straight c (lac m ▸ end) v (operand_weight m) (LoadedFrom Sign x v)
  word_loaded m x v there s lt =
      operation c (row.Lac 0) m v x (with_acc (Whole (extended true x)) v.registers) (LoadedFrom Sign x v) (λ u. refl) there (ap (λ a. Some (with_acc a v.registers)) (scaled_word v.registers.sxm x s lt)) refl s (record { acc = refl; scratch = refl; t = refl })

  pub found_loaded : (f : Found) (x : ℕ) (v : Machine) → FoundHas c.at f x v → v.registers.sxm ≡ Some true → x < 65536 → Straight c (load f) v (found_weight f) (LoadedFrom (high f) x v)
  found_loaded (Fixed k) x v is s lt = constant_loaded k x v is s lt
  found_loaded (Held m) x v is s lt = word_loaded m x v is s lt
  found_loaded (Loaded h) x v is s lt = nothing_done c v 0 (LoadedFrom h x v) s (record { acc = is; scratch = refl; t = refl })

  -- a word goes to a scratch word
  pub word_saved : (n x : ℕ) (v : Machine) → low_half v.registers.acc ≡ Some x → v.registers.sxm ≡ Some true → x < 65536 → Straight c (sacl (scratch n) ▸ end) v 2 (λ u. (u.scratch ≡ with_scalar n x v.scratch) × (u.registers ≡ v.registers))
  word_saved n x v is s lt = saved c n v x _ s lt is (refl, refl)

  -- and comes back with its sign
  pub reloaded : (x : ℕ) (v : Machine) → low_half v.registers.acc ≡ Some x → v.registers.sxm ≡ Some true → x < 65536 → Straight c (sacl (scratch 0) ▸ lac (scratch 0) ▸ end) v 4 (λ u. Has Sign x u.registers.acc)
  reloaded x v is s lt =
      let first = word_saved 0 x v is s lt in
      behind_that c (sacl (scratch 0) ▸ end) (lac (scratch 0) ▸ end) v 2 2 (λ u. (u.scratch ≡ with_scalar 0 x v.scratch) × (u.registers ≡ v.registers)) (λ u. Has Sign x u.registers.acc)
      first
      (at_most c (lac (scratch 0) ▸ end) first.to 2 2 (LoadedFrom Sign x first.to) (λ u. Has Sign x u.registers.acc) (omega arith) (λ u h. h.acc)
      (word_loaded (scratch 0) x first.to (ap (λ g. g 0) first.then_so.0 ∙ put_here v.scratch 0 x) first.sxm lt))

  pub extended_word : (h : HighHalf) (x : ℕ) (v : Machine) → Has h x v.registers.acc → v.registers.sxm ≡ Some true → x < 65536 → Straight c (extend h) v 4 (λ u. Has Sign x u.registers.acc)
  extended_word Any x v has s lt = reloaded x v has s lt
  extended_word Zero x v has s lt = reloaded x v (has_low Zero x v.registers.acc lt has) s lt
  extended_word Sign x v has s lt = nothing_done c v 4 (λ u. Has Sign x u.registers.acc) s has
  extended_word Small x v has s lt = nothing_done c v 4 (λ u. Has Sign x u.registers.acc) s (has.0 ∙ ap Whole (small_sign x has.1))
