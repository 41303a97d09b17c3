-- What is known of an operand stands in its word.
use Rattle.std.proofs.Common.{◌≡◌, ℕ, Option, Some, None, refl, sym, ap, ◌∙◌}
use Rattle.std.proofs.lemmas.Option.{none-some, same_Some}
use Rattle.c25_isa.specs.State.{Memory}
use Rattle.acc_code.specs.declared.operand.AccOperand.{AccOperand}
use Rattle.acc_code.specs.declared.operand.AccOperand.TheVariants as operand
use Rattle.ir_semantics.specs.Outside as words
use Rattle.ir_semantics.specs.Outside.{word_of}
use Rattle.ir_semantics.specs.TreeRun.{Addresses}
use Rattle.ir_semantics.specs.AccRun.{Machine, held, word_at}
use Rattle.emit_blocks.specs.Places.{Places}
use Rattle.emit_proof.specs.Standing.{HaveAddresses, StandsBeside, place_of}

-- a cell that holds a word
holds_word : (c : words.Cell) (x : ℕ) → word_of c ≡ Some x → c ≡ words.Holds x
holds_word words.Nowhere x e = absurd (none-some x e)
holds_word words.Unwritten x e = absurd (none-some x e)
holds_word (words.Holds y) x e = ap words.Holds (same_Some y x e)

module _ (s : Places) (counts : ℕ → ℕ) (kept : ℕ → Option ℕ) (v : Machine) (ram : Memory) (stands : StandsBeside s counts kept v ram) where
  in_memory : (b : Option ℕ) (a x : ℕ) → ((c : ℕ) → b ≡ Some c → c ≡ a) → word_at b v.outside.memory ≡ Some x → ram a ≡ x
  in_memory None a x same e = absurd (none-some x e)
  in_memory (Some c) a x same e = ap ram (sym (same c refl)) ∙ stands.memory c x (holds_word (v.outside.memory c) x e)

  pub operand_read : (at : Addresses) (m : AccOperand) (p a x : ℕ) → HaveAddresses s at → ((c : ℕ) → v.registers.pointed ≡ Some c → c ≡ p) → held at m v ≡ Some x → place_of s p m ≡ Some a → ram a ≡ x
  operand_read at operand.Nothing p a x have points e place = absurd (none-some a place)
  operand_read at (operand.Scalar n) p a x have points e place = ap ram (sym (same_Some _ a place)) ∙ (stands.frame n x e).1
  operand_read at (operand.Direct o) p a x have points e place = in_memory (at o) a x (λ c is. sym (have o c is) ∙ same_Some _ a place) e
  operand_read at (operand.Param f i) p a x have points e place = absurd (none-some x e)
  operand_read at (operand.Scratch n) p a x have points e place = ap ram (sym (same_Some _ a place)) ∙ (stands.scratch n x e).1
  operand_read at (operand.Number w) p a x have points e place = absurd (none-some a place)
  operand_read at (operand.Address o i) p a x have points e place = absurd (none-some a place)
  operand_read at operand.Pointed p a x have points e place = in_memory v.registers.pointed a x (λ c is. points c is ∙ same_Some p a place) e
