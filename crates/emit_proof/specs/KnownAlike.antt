-- What is known within a run, before these steps, is so of the machine.
use Rattle.std.specs.Prelude.{ℕ, ◌≡◌, ◌≤◌, true, false, List, Some, None}
use Rattle.c25_code.specs.Work.{Work}
use Rattle.emit_blocks.specs.declared.step.Step.{Step}
use Rattle.emit_blocks.specs.Moves.{next_register, moves_by_index}
use Rattle.emit_blocks.specs.Runs.{Known}

-- the page; where the registers of lists stand, which is known only behind an access through one; that the register is current that the next
-- indirect operand wants; and AR0, where some access is left by the step
pub record KnownAlike (d : ℕ) (k : Known) (xs : List Step) (w : Work) : Type 0 where
  pub page : (n : ℕ) → k.page ≡ Some n → w.dp ≡ n
  pub stands : (r a : ℕ) → 2 ≤ r → k.stands r ≡ Some a → w.ar r ≡ a
  pub nowhere : k.current ≡ false → (r : ℕ) → k.stands r ≡ None
  pub current : k.current ≡ true → (r : ℕ) → next_register xs ≡ Some r → w.arp ≡ r
  pub index : moves_by_index d xs ≡ true → w.ar 0 ≡ d
