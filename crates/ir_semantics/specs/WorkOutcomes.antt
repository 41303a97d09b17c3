-- What runs with work come to.
use Rattle.std.specs.Prelude.{ℕ}
use Rattle.word_base.specs.declared.outcome.Ending.{Ending}
use Rattle.word_base.specs.Ports.{Outputs}

-- the end of a run with its work, a run with a turn too many, or one with an undefined operation
pub data WorkOutcome : Type 0 where
  Ended : Outputs → Ending → ℕ → WorkOutcome
  More : Outputs → WorkOutcome
  Undefined : Outputs → WorkOutcome

abbrev pub outputs_of : WorkOutcome → Outputs
outputs_of (Ended outs ending work) = outs
outputs_of (More outs) = outs
outputs_of (Undefined outs) = outs
