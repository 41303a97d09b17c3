-- Sites whose addresses are words, with registers of their own for lists, and operations on words.
use Rattle.std.specs.Prelude.{⊤, ℕ, ◌<◌, ◌≤◌, List, [], ◌∷◌}
use Rattle.acc_code.specs.declared.operand.AccOperand.{AccOperand}
use Rattle.acc_code.specs.declared.operand.AccOperand.TheVariants as operand
use Rattle.emit_blocks.specs.declared.site.ScalarPlace.{ScalarPlace}
use Rattle.emit_blocks.specs.Places.{Places}
use Rattle.emit_blocks.specs.Steps.{Operation}

-- registers other than AR0 and AR1
abbrev pub HaveOwnRegisters : List ScalarPlace → Type 0
HaveOwnRegisters [] = ⊤
HaveOwnRegisters (p ∷ ps) = (2 ≤ p.register) × HaveOwnRegisters ps

abbrev pub AreWords : List ℕ → Type 0
AreWords [] = ⊤
AreWords (a ∷ ws) = (a < 65536) × AreWords ws

abbrev pub ListsAreWords : List (List ℕ) → Type 0
ListsAreWords [] = ⊤
ListsAreWords (l ∷ ls) = AreWords l × ListsAreWords ls

abbrev pub ScalarsAreWords : List ScalarPlace → Type 0
ScalarsAreWords [] = ⊤
ScalarsAreWords (p ∷ ps) = (p.address < 65536) × ScalarsAreWords ps

pub record HasAddresses (s : Places) : Type 0 where
  pub scalars : ScalarsAreWords s.scalars
  pub statics : AreWords s.statics
  pub locals : AreWords s.locals
  pub parameters : ListsAreWords s.parameters

-- numbers are words, and so are the addresses of scratch words
abbrev pub IsWordOperand : AccOperand → Type 0
IsWordOperand (operand.Scratch n) = n < 256
IsWordOperand (operand.Number w) = w < 65536
IsWordOperand m = ⊤

abbrev pub AreWordOperations : List Operation → Type 0
AreWordOperations [] = ⊤
AreWordOperations (o ∷ os) = IsWordOperand o.operand × AreWordOperations os
