-- What the body of a function comes to: it returns to the caller, which has the hardware stack behind, and nothing else leaves it.
use Rattle.std.specs.Prelude.{ℕ}
use Rattle.c25_isa.specs.State.{State, Memory}
use Rattle.ir_semantics.specs.Parts.{Res, Gives, Finished, TooMany, Fails, Flow, Next, Broke, Continued, Returned}
use Rattle.ir_semantics.specs.AccRun.{Machine}
use Rattle.emit_proof.specs.Sites.{Site}
use Rattle.emit_proof.specs.Arrivals.{Begun, ComesTo, ComesToEnd, StillRuns}

module _ (start : State) (program : Memory) where
  abbrev pub MeetsBody : Site → Begun → ℕ → ℕ → Res Machine Flow → Type 0
  MeetsBody caller b back long (Gives Next v) = ComesTo start program caller b back 1 8 v
  MeetsBody caller b back long (Gives Broke v) = StillRuns start program 0 v.outside.outs
  MeetsBody caller b back long (Gives Continued v) = StillRuns start program 0 v.outside.outs
  MeetsBody caller b back long (Gives Returned v) = ComesTo start program caller b back 1 8 v
  MeetsBody caller b back long (Finished ending outs total) = ComesToEnd start program b 8 ending outs total
  MeetsBody caller b back long (TooMany outs) = StillRuns start program long outs
  MeetsBody caller b back long (Fails outs) = StillRuns start program 0 outs
