-- Where the machine comes to, and with what, beside what a part of a run of accumulator code came to. Steps are counted from one state on, that of a
-- reset, and outputs too, so that one arrival begins where another one ended.
use Rattle.std.specs.Prelude.{◌≡◌, ◌≤◌, ℕ, ◌+◌, ◌*◌}
use Rattle.word_base.specs.declared.outcome.Ending.{Ending}
use Rattle.word_base.specs.Ports.{Outputs}
use Rattle.c25_isa.specs.State.{State, Memory}
use Rattle.c25_isa.specs.Step.{Over, step}
use Rattle.c25_isa.specs.Leads.{Leads}
use Rattle.c25_code.specs.Work.{Work, calm}
use Rattle.ir_semantics.specs.Parts.{Res, Gives, Finished, TooMany, Fails, Flow, Next, Broke, Continued, Returned}
use Rattle.ir_semantics.specs.AccRun.{Machine}
use Rattle.emit_proof.specs.Sites.{Site, Beside}

-- a part of a run begins behind so many steps, with so much work done
pub record Begun : Type 0 where
  pub steps : ℕ
  pub work : ℕ

-- the addresses where a part of a function is left to, and that to which the function returns
pub record Exits : Type 0 where
  pub onward : ℕ
  pub broken : ℕ
  pub continued : ℕ
  pub back : ℕ

module _ (start : State) (program : Memory) where
  -- it comes to an address beside a state, in at least so many steps more, and at most 64 for each unit of work and some more
  pub record ComesTo (k : Site) (b : Begun) (a least slack : ℕ) (v : Machine) : Type 0 where
    pub steps : ℕ
    pub work : Work
    pub came : Leads steps start (calm program a work) v.outside.outs
    pub beside : Beside k v work
    pub least_steps : b.steps + least ≤ steps
    pub within : steps + 64 * b.work ≤ b.steps + 64 * v.work + slack

  -- it comes to its end
  pub record ComesToEnd (b : Begun) (slack : ℕ) (ending : Ending) (outs : Outputs) (total : ℕ) : Type 0 where
    pub steps : ℕ
    pub state : State
    pub came : Leads steps start state outs
    pub over : step state ≡ Over ending
    pub within : steps + 64 * b.work ≤ b.steps + 64 * total + slack

  -- it still runs, behind so many steps or more
  pub record StillRuns (least : ℕ) (outs : Outputs) : Type 0 where
    pub steps : ℕ
    pub state : State
    pub came : Leads steps start state outs
    pub long : least ≤ steps

  -- what a part of the active function came to: it is left onward in at least so many steps, to where a jump leaves it in one at least, or to its
  -- caller, which has the hardware stack behind; it ends; it goes on, behind so many steps; or the outputs before what is undefined were put
  abbrev pub Meets : Site → Site → Begun → Exits → ℕ → ℕ → ℕ → Res Machine Flow → Type 0
  Meets k caller b e least slack long (Gives Next v) = ComesTo k b e.onward least slack v
  Meets k caller b e least slack long (Gives Broke v) = ComesTo k b e.broken 1 slack v
  Meets k caller b e least slack long (Gives Continued v) = ComesTo k b e.continued 1 slack v
  Meets k caller b e least slack long (Gives Returned v) = ComesTo caller b e.back 1 slack v
  Meets k caller b e least slack long (Finished ending outs total) = ComesToEnd b slack ending outs total
  Meets k caller b e least slack long (TooMany outs) = StillRuns long outs
  Meets k caller b e least slack long (Fails outs) = StillRuns 0 outs

  -- a call comes back behind itself
  abbrev pub MeetsCall : Site → Begun → ℕ → ℕ → ℕ → Res Machine Flow → Type 0
  MeetsCall k b behind slack long (Gives Next v) = ComesTo k b behind 1 slack v
  MeetsCall k b behind slack long (Gives Broke v) = ⊥
  MeetsCall k b behind slack long (Gives Continued v) = ⊥
  MeetsCall k b behind slack long (Gives Returned v) = ⊥
  MeetsCall k b behind slack long (Finished ending outs total) = ComesToEnd b slack ending outs total
  MeetsCall k b behind slack long (TooMany outs) = StillRuns long outs
  MeetsCall k b behind slack long (Fails outs) = StillRuns 0 outs
