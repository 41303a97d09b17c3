-- A run that does what another one does, wherever that one is defined.
use Rattle.std.specs.Prelude.{◌≡◌, ℕ}
use Rattle.word_base.specs.declared.outcome.Ending.{Ending}
use Rattle.word_base.specs.declared.outcome.UndefinedKind.{UndefinedKind}
use Rattle.word_base.specs.declared.outcome.Outcome.{Outcome}
use Rattle.word_base.specs.declared.outcome.Outcome.TheVariants.{Ended, More, Undefined}
use Rattle.word_base.specs.Ports.{Outputs, Prefix}
use Rattle.word_base.specs.Outcome.{outputs_of}

-- what runs come to, by a bound on the turns of their loops
abbrev pub Outcomes : Type 0
Outcomes = ℕ → Outcome

-- at each bound the other one ends alike and goes on alike, and puts at least what was put before what is undefined
pub record Keeps (run other : Outcomes) : Type 0 where
  pub ends : (n : ℕ) (outs : Outputs) (ending : Ending) → run n ≡ Ended outs ending → other n ≡ Ended outs ending
  pub goes_on : (n : ℕ) (outs : Outputs) → run n ≡ More outs → other n ≡ More outs
  pub undefined : (n : ℕ) (outs : Outputs) (kind : UndefinedKind) (at : ℕ) → run n ≡ Undefined outs kind at → Prefix outs (outputs_of (other n))
