-- Where the code of the active function has its words, and what stands side by side while it runs: the state of accumulator code and the machine's work.
use Rattle.std.specs.Prelude.{◌≡◌, ◌<◌, ◌≤◌, ℕ, Bool, true, false, List, length, Option, Some}
use Rattle.c25_code.specs.Work.{Work, InRange}
use Rattle.ir_semantics.specs.Outside as words
use Rattle.ir_semantics.specs.TreeRun.{Addresses}
use Rattle.ir_semantics.specs.AccRun.{Machine}
use Rattle.emit_blocks.specs.Places.{Places}
use Rattle.emit_blocks.specs.Right.{HaveRegisters}
use Rattle.emit_proof.specs.Addressed.{HaveOwnRegisters, HasAddresses}
use Rattle.emit_proof.specs.Registers.{RegistersAlike}
use Rattle.emit_proof.specs.Standing.{scalar_address, parameter_address, IsReserved, AreApart, HaveAddresses, StandsBeside}

-- where its words lie; how many parameters each function has that it calls; the words of its callers, and its return word, with what they keep; the
-- words of objects that live, or may; where its objects are; and the hardware stack while it is active
pub record Site : Type 0 where
  pub places : Places
  pub counts : ℕ → ℕ
  pub kept : ℕ → Option ℕ
  pub lives : ℕ → Bool
  pub at : Addresses
  pub stack : List ℕ

abbrev pub with_stack : List ℕ → Site → Site
with_stack stack k = record k { stack = stack }

-- no word has two uses, registers are the machine's and none is AR0 or AR1, and words lie in RAM, behind the scratch words
pub record IsSite (k : Site) : Type 0 where
  pub apart : AreApart k.places k.counts k.kept
  pub addresses : HaveAddresses k.places k.at
  pub registers : HaveRegisters k.places.scalars
  pub own : HaveOwnRegisters k.places.scalars
  pub words : HasAddresses k.places
  pub step : k.places.step < 256
  pub scalars : (n : ℕ) → n < length k.places.scalars → (0x310 ≤ scalar_address k.places n) × (scalar_address k.places n < 65536)
  pub parameters : (f i : ℕ) → i < k.counts f → (0x310 ≤ parameter_address k.places f i) × (parameter_address k.places f i < 65536)
  pub callers : (a x : ℕ) → k.kept a ≡ Some x → (0x310 ≤ a) × (a < 65536)
  pub objects : (a : ℕ) → k.lives a ≡ true → (0x310 ≤ a) × (a < 65536)
  pub dead : (a : ℕ) → IsReserved k.places k.counts k.kept a → k.lives a ≡ false

-- what accumulator code knows is so of the machine
pub record Beside (k : Site) (v : Machine) (w : Work) : Type 0 where
  pub stands : StandsBeside k.places k.counts k.kept v w.ram
  pub nowhere : (a : ℕ) → k.lives a ≡ false → v.outside.memory a ≡ words.Nowhere
  pub registers : RegistersAlike v.registers w
  pub pointed : (q : ℕ) → v.registers.pointed ≡ Some q → q ≡ w.ar 1
  pub input : w.input ≡ v.outside.input
  pub stack : w.stack ≡ k.stack
  pub range : InRange w
