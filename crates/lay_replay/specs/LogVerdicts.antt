-- What a replay of a log answers, and why a log doesn't fit.
use Rattle.lay_tree.specs.Replays.{Replay, Fits, IsTooLow, HasNoShape}
use Rattle.lay_replay.specs.declared.verdict.LogVerdict.{LogVerdict}
use Rattle.lay_replay.specs.declared.verdict.LogVerdict.TheVariants as verdicts
use Rattle.lay_replay.specs.declared.verdict.Fault.{Fault}
use Rattle.lay_replay.specs.declared.verdict.Fault.TheVariants as faults

abbrev pub verdict_of : Replay → LogVerdict
verdict_of Fits = verdicts.Fits
verdict_of (IsTooLow at bound) = verdicts.TooLow at bound
verdict_of (HasNoShape at) = verdicts.NoShape at

-- what comes of a replay that ends with a fault
abbrev pub replay_at : Fault → Replay
replay_at (faults.TooLow node bound) = IsTooLow node bound
replay_at (faults.NoShape node) = HasNoShape node
