-- What is known of an outcome of a run.
use Rattle.word_base.specs.declared.outcome.Outcome.{Outcome}
use Rattle.word_base.specs.declared.outcome.Outcome.TheVariants.{Ended, More, Undefined}
use Rattle.word_base.specs.Ports.{Outputs}

-- the words that were put
abbrev pub outputs_of : Outcome → Outputs
outputs_of (Ended outs ending) = outs
outputs_of (More outs) = outs
outputs_of (Undefined outs kind at) = outs
