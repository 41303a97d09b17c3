-- What the rules of names and types make of a node: something, or the first rule that is broken, in walking order, and the
-- place of the node that breaks it (docs/LANGUAGE.md, "Types"). A node's parts come before the node, in source order.
use Rattle.std.specs.Prelude.{ℕ, Bool, true, false, Option, Some, None}
use Rattle.c_rules.specs.declared.fault.Rule.{Rule}

pub data Outcome (A : Type 0) : Type 0 where
  Is : A → Outcome A
  Broken : Rule → ℕ → Outcome A

-- one node behind another: the first that breaks a rule is answered
infixl 10 ◌>>=◌
abbrev pub ◌>>=◌ : {A B : Type 0} → Outcome A → (A → Outcome B) → Outcome B
Is a >>= next = next a
Broken rule at >>= next = Broken rule at

-- a rule of the node at this place, which is broken where the Bool is true
abbrev pub breaks : {A : Type 0} → Bool → Rule → ℕ → Outcome A → Outcome A
breaks true rule at next = Broken rule at
breaks false rule at next = next

-- what is there unless a rule is broken
abbrev pub there_or : {A : Type 0} → Rule → ℕ → Option A → Outcome A
there_or rule at (Some a) = Is a
there_or rule at None = Broken rule at
