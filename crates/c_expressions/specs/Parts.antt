-- What a function gives that reads a part of a source.
use Rattle.std.specs.Prelude.{◌≡◌, ◌+◌, ◌<◌, ◌≤◌, ℕ, List, length, Result, IfOk, IfErr}
use Rattle.c_syntax.specs.declared.token.Token.{Token}
use Rattle.c_syntax.specs.Measures.{greatest_height}
use Rattle.c_cursor.specs.declared.fault.Refusal.{Refusal}
use Rattle.c_expressions.specs.declared.parser.Tall.{Tall}
use Rattle.c_expressions.specs.Fronts.{NoFront, OnlyTo}
use Rattle.c_cursor.specs.Refusals.{Refuses}
use Rattle.c_cursor.specs.Takes.{Takes}

-- a part was read under so many nodes, or is refused: the tokens that its tree takes, the way that none of a refused part leads, the height of its tree
pub record ReadsPart {T : Type 0} (Row : T → List Token → Type 0) (Way : List Token → List Token → Type 0) (height_of : T → ℕ) (depth : ℕ) (before after : List Token) (result : Result (Tall T) Refusal) : Type 0 where
  pub tree : IfOk result (λ p. Takes (Row p.tree) before after)
  pub refused : IfErr result (Refuses (NoFront Way before))
  pub height : IfOk result (λ p. p.height ≡ height_of p.tree)
  pub room : IfOk result (λ p. depth + p.height ≤ greatest_height)
  pub fewer : IfOk result (λ _. length after < length before)

-- the same of a part for which its way leads to one end alone
pub record ReadsWhole {T : Type 0} (Row : T → List Token → Type 0) (Way : List Token → List Token → Type 0) (height_of : T → ℕ) (depth : ℕ) (before after : List Token) (result : Result (Tall T) Refusal) : Type 0 where
  pub tree : IfOk result (λ p. Takes (Row p.tree) before after)
  pub only : IfOk result (λ _. OnlyTo Way before after)
  pub refused : IfErr result (Refuses (NoFront Way before))
  pub height : IfOk result (λ p. p.height ≡ height_of p.tree)
  pub room : IfOk result (λ p. depth + p.height ≤ greatest_height)
  pub fewer : IfOk result (λ _. length after < length before)

-- the same of a part that may be empty
pub record ReadsAny {T : Type 0} (Row : T → List Token → Type 0) (Way : List Token → List Token → Type 0) (height_of : T → ℕ) (depth : ℕ) (before after : List Token) (result : Result (Tall T) Refusal) : Type 0 where
  pub tree : IfOk result (λ p. Takes (Row p.tree) before after)
  pub only : IfOk result (λ _. OnlyTo Way before after)
  pub refused : IfErr result (Refuses (NoFront Way before))
  pub height : IfOk result (λ p. p.height ≡ height_of p.tree)
  pub room : IfOk result (λ p. depth + p.height ≤ greatest_height)
  pub no_more : IfOk result (λ _. length after ≤ length before)
