-- Arrivals one behind another: counts of steps, and what comes of a part is what comes of the whole.
use Rattle.std.proofs.Common.{◌≡◌, ℕ, ◌+◌, ◌*◌, ◌≤◌, true, [], refl, sym, ◌∙◌, subst, arith, append-nil}
use Rattle.word_base.specs.Ports.{Outputs}
use Rattle.c25_isa.specs.Leads.{Leads}
use Rattle.c25_isa.proofs.Leads.{leads_on}
use Rattle.c25_code.specs.Work.{Work, calm}
use Rattle.ir_semantics.specs.Parts.{Res, Gives, Finished, TooMany, Fails, Does, after, Flow, Next, Broke, Continued, Returned}
use Rattle.ir_semantics.specs.AccRun.{Machine, without_scratch}
use Rattle.emit_proof.specs.Sites.{Site, Beside}
use Rattle.emit_proof.specs.Arrivals.{Begun, ComesTo, ComesToEnd, StillRuns}
use Rattle.emit_proof.proofs.Knowing.{without_scratch_beside, more_work_beside}
use Rattle.emit_proof.proofs.Grounds.{Ground, Exit, Exits, Arrived, begun_at, Comes, MeetsAt}

module _ (g : Ground) where
  -- from a place it is the same with what was done before
  pub earlier_comes : (b b' : Begun) (x : Exit) (least least' slack slack' : ℕ) (v : Machine) → b.steps + least ≤ b'.steps + least' → b'.steps + 64 * b.work + slack' ≤ b.steps + 64 * b'.work + slack
      → Comes g b' x least' slack' v → Comes g b x least slack v
  earlier_comes b b' x least least' slack slack' v more few h = record {
    steps = h.steps;
    work = h.work;
    came = h.came;
    beside = h.beside;
    least_steps = omega (arith, more, h.least_steps);
    within = omega (arith, few, h.within);
    reached = h.reached;
  }

  pub earlier_returns : (k : Site) (b b' : Begun) (a least least' slack slack' : ℕ) (v : Machine) → b.steps + least ≤ b'.steps + least' → b'.steps + 64 * b.work + slack' ≤ b.steps + 64 * b'.work + slack
      → ComesTo g.start g.program k b' a least' slack' v → ComesTo g.start g.program k b a least slack v
  earlier_returns k b b' a least least' slack slack' v more few h = record {
    steps = h.steps;
    work = h.work;
    came = h.came;
    beside = h.beside;
    least_steps = omega (arith, more, h.least_steps);
    within = omega (arith, few, h.within);
  }

  pub earlier_ends : (b b' : Begun) (slack slack' : ℕ) (ending : _) (outs : Outputs) (total : ℕ) → b'.steps + 64 * b.work + slack' ≤ b.steps + 64 * b'.work + slack
      → ComesToEnd g.start g.program b' slack' ending outs total → ComesToEnd g.start g.program b slack ending outs total
  earlier_ends b b' slack slack' ending outs total few h = record { steps = h.steps; state = h.state; came = h.came; over = h.over; within = omega (arith, few, h.within) }

  pub earlier : (b b' : Begun) (e : Exits) (least least' slack slack' : ℕ) (r : Res Machine Flow) → b.steps ≤ b'.steps → b.steps + least ≤ b'.steps + least' → b'.steps + 64 * b.work + slack' ≤ b.steps + 64 * b'.work + slack
      → MeetsAt g b' e least' slack' r → MeetsAt g b e least slack r
  earlier b b' e least least' slack slack' (Gives Next v) later more few h = earlier_comes b b' e.onward least least' slack slack' v more few h
  earlier b b' e least least' slack slack' (Gives Broke v) later more few h = earlier_comes b b' e.broken 1 1 slack slack' v (omega (arith, later)) few h
  earlier b b' e least least' slack slack' (Gives Continued v) later more few h = earlier_comes b b' e.continued 1 1 slack slack' v (omega (arith, later)) few h
  earlier b b' e least least' slack slack' (Gives Returned v) later more few h = earlier_returns g.caller b b' e.back 1 1 slack slack' v (omega (arith, later)) few h
  earlier b b' e least least' slack slack' (Finished ending outs total) later more few h = earlier_ends b b' slack slack' ending outs total few h
  earlier b b' e least least' slack slack' (TooMany outs) later more few h = h
  earlier b b' e least least' slack slack' (Fails outs) later more few h = h

  -- the arrival at a place
  pub arrival : (b : Begun) (x : Exit) (least slack : ℕ) (v : Machine) → (h : Comes g b x least slack v) → Arrived g (begun_at h.steps v) x.address v h.work
  arrival b x least slack v h = record { came = h.came; work = refl; beside = h.beside }

  pub comes_here : (b b' : Begun) (x : Exit) (least slack : ℕ) (v : Machine) (w : Work) → x.reached ≡ true → b.steps + least ≤ b'.steps → b'.steps + 64 * b.work ≤ b.steps + 64 * b'.work + slack → Arrived g b' x.address v w → Comes g b x least slack v
  comes_here b b' x least slack v w reached more few h = record {
    steps = b'.steps;
    work = w;
    came = h.came;
    beside = h.beside;
    least_steps = more;
    within = omega (arith, few, h.work);
    reached = reached;
  }

  pub runs_here : (b : Begun) (a : ℕ) (v : Machine) (w : Work) → Arrived g b a v w → StillRuns g.start g.program 0 v.outside.outs
  runs_here b a v w h = record { steps = b.steps; state = calm g.program a w; came = h.came; long = omega arith }

  pub runs_there : (b : Begun) (x : Exit) (least slack : ℕ) (v : Machine) → Comes g b x least slack v → StillRuns g.start g.program 0 v.outside.outs
  runs_there b x least slack v h = record { steps = h.steps; state = calm g.program x.address h.work; came = h.came; long = omega arith }

  -- the machine goes on, and nothing is put
  pub goes_on : (b : Begun) (n a a' : ℕ) (v u : Machine) (w w' : Work) → Arrived g b a v w → Leads n (calm g.program a w) (calm g.program a' w') [] → u.outside.outs ≡ v.outside.outs → Beside g.site u w' → Arrived g (begun_at (b.steps + n) u) a' u w'
  goes_on b n a a' v u w w' h leads outs beside = record {
    came = subst (Leads (b.steps + n) g.start (calm g.program a' w')) (append-nil v.outside.outs ∙ sym outs) (leads_on b.steps n _ _ _ v.outside.outs [] h.came leads);
    work = refl;
    beside = beside;
  }

  -- an item counts its work, and scratch words are forgotten
  pub counted : (b : Begun) (a n : ℕ) (v : Machine) (w : Work) → Arrived g b a v w → Arrived g (begun_at b.steps (record v { work = v.work + n })) a (record v { work = v.work + n }) w
  counted b a n v w h = record { came = h.came; work = refl; beside = more_work_beside g.site v w (v.work + n) h.beside }

  pub scratch_forgotten : (b : Begun) (a : ℕ) (v : Machine) (w : Work) → Arrived g b a v w → Arrived g b a (without_scratch v) w
  scratch_forgotten b a v w h = record { came = h.came; work = h.work; beside = without_scratch_beside g.site v w h.beside }

  -- what comes behind a part
  module _ (b b' : Begun) (e e' : Exits) (least least' slack slack' : ℕ) (f : Flow → Does Machine Flow) (later : b.steps ≤ b'.steps) (few : b'.steps + 64 * b.work + slack' ≤ b.steps + 64 * b'.work + slack)
      (next : (v : Machine) → Comes g b' e'.onward least' slack' v → MeetsAt g b e least slack (f Next v))
      (broke : (v : Machine) → Comes g b' e'.broken 1 slack' v → MeetsAt g b e least slack (f Broke v))
      (continued : (v : Machine) → Comes g b' e'.continued 1 slack' v → MeetsAt g b e least slack (f Continued v))
      (returned : (v : Machine) → ComesTo g.start g.program g.caller b' e'.back 1 slack' v → MeetsAt g b e least slack (f Returned v)) where
    pub follow : (r : Res Machine Flow) → MeetsAt g b' e' least' slack' r → MeetsAt g b e least slack (after r f)
    follow (Gives Next v) h = next v h
    follow (Gives Broke v) h = broke v h
    follow (Gives Continued v) h = continued v h
    follow (Gives Returned v) h = returned v h
    follow (Finished ending outs total) h = earlier_ends b b' slack slack' ending outs total few h
    follow (TooMany outs) h = h
    follow (Fails outs) h = h
