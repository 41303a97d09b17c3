-- Parts of a run over states of any kind: one behind another, with the places where a run stops.
use Rattle.std.specs.Prelude.{ℕ, Bool, true, false}
use Rattle.word_base.specs.declared.outcome.Ending.{Ending}
use Rattle.word_base.specs.Ports.{Outputs}

-- what a part of a run came to: a value; the end of the run, with its outputs and its work; a loop with a turn too many; or an undefined
-- operation
pub data Res (S A : Type 0) : Type 0 where
  Gives : A → S → Res S A
  Finished : Ending → Outputs → ℕ → Res S A
  TooMany : Outputs → Res S A
  Fails : Outputs → Res S A

-- a part of a run: from the state before it to what it came to
abbrev pub Does : Type 0 → Type 0 → Type 0
Does S A = S → Res S A

-- a run goes on behind a value, and stays where it stopped
abbrev pub after : {S A B : Type 0} → Res S A → (A → Does S B) → Res S B
after (Gives a w) next = next a w
after (Finished ending outs work) next = Finished ending outs work
after (TooMany outs) next = TooMany outs
after (Fails outs) next = Fails outs

-- one part of a run behind another
infixl 10 ◌>>=◌
abbrev pub ◌>>=◌ : {S A B : Type 0} → Does S A → (A → Does S B) → Does S B
f >>= next = λ w. after (f w) next

-- this value, which changes nothing
abbrev pub give : {S A : Type 0} → A → Does S A
give a = λ w. Gives a w

-- one of two parts of a run
abbrev pub choose : {S A : Type 0} → Bool → Does S A → Does S A → Does S A
choose true a b = a
choose false a b = b

-- how a statement or a list of items is left
pub data Flow : Type 0 where
  Next : Flow
  Broke : Flow
  Continued : Flow
  Returned : Flow

-- behind a part of a list: the rest, unless the part was left by a jump
abbrev pub in_order : {S : Type 0} → Flow → Does S Flow → Does S Flow
in_order Next rest = rest
in_order Broke rest = give Broke
in_order Continued rest = give Continued
in_order Returned rest = give Returned

-- a break leaves the switch alone
abbrev pub behind_switch : {S : Type 0} → Flow → Does S Flow
behind_switch Next = give Next
behind_switch Broke = give Next
behind_switch Continued = give Continued
behind_switch Returned = give Returned
