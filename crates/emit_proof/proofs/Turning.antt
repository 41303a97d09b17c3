-- The turns of a loop, from its head: each turn takes a step.
use Rattle.std.proofs.Common.{ℕ, zero, suc, ◌+◌, ◌*◌, ◌≤◌, arith}
use Rattle.c25_code.specs.Work.{Work, calm}
use Rattle.ir_semantics.specs.Parts.{Does, ◌>>=◌, Flow}
use Rattle.ir_semantics.specs.AccRun.{Machine, turns, behind_part, behind_turn, too_many, tick}
use Rattle.emit_proof.specs.Arrivals.{Begun}
use Rattle.emit_proof.proofs.Grounds.{Ground, Exit, Exits, Arrived, begun_at, MeetsAt}
use Rattle.emit_proof.proofs.Arriving.{earlier, earlier_comes, earlier_returns, arrival, counted, runs_there, follow}

abbrev pub leaving : Exit → Exit → Exits → Exits
leaving onward continued e = record { onward = onward; broken = e.onward; continued = continued; back = e.back }

module _ (g : Ground) (e : Exits) (head start go : Exit) (least least' least'' : ℕ) (before body third : Does Machine Flow) (moves : 1 ≤ least' + least'')
    (first : (b : Begun) (v : Machine) (w : Work) → Arrived g b head.address v w → MeetsAt g b (leaving start go e) least 4 (before v))
    (turn : (b : Begun) (v : Machine) (w : Work) → Arrived g b start.address v w → MeetsAt g b (leaving go go e) least' 4 (body v))
    (last : (b : Begun) (v : Machine) (w : Work) → Arrived g b go.address v w → MeetsAt g b (leaving head e.onward e) least'' 4 (third v)) where
  -- turns from the head on
  abbrev Turns : ℕ → Type 0
  Turns n = (b : Begun) (v : Machine) (w : Work) → Arrived g b head.address v w → g.context.limit ≤ b.steps + n → MeetsAt g b e 1 12 (turns n before body third v)

  abbrev again : ℕ → Flow → Does Machine Flow
  again n flow = behind_part flow (turns n before body third)

  -- the third part, and the turns behind it
  behind_body : (n : ℕ) (b b' : Begun) (v : Machine) (w : Work) → Turns n → g.context.limit ≤ b.steps + suc n → b.steps ≤ b'.steps → b.steps + 1 ≤ b'.steps + least'' → b'.steps + 64 * b.work + 4 ≤ b.steps + 64 * b'.work
      → Arrived g b' go.address v w → MeetsAt g b e 1 12 ((third >>= again n) v)
  behind_body n b b' v w more long later step few h =
      follow g b b' e (leaving head e.onward e) 1 least'' 12 4 (again n) later (omega (arith, few))
      (λ u c. earlier g b (begun_at c.steps u) e 1 1 12 12 (turns n before body third u) (omega (arith, later, c.least_steps)) (omega (arith, later, c.least_steps)) (omega (arith, few, c.within))
      (more (begun_at c.steps u) u c.work (arrival g b' head least'' 4 u c) (omega (arith, long, step, c.least_steps))))
      (λ u c. earlier_comes g b b' e.onward 1 1 12 4 u (omega (arith, later)) (omega (arith, few)) c)
      (λ u c. runs_there g b' e.onward 1 4 u c)
      (λ u c. earlier_returns g g.caller b b' e.back 1 1 12 4 u (omega (arith, later)) (omega (arith, few)) c)
      (third v) (last b' v w h)

  -- the body, and what stands behind it
  behind_first : (n : ℕ) (b b' : Begun) (v : Machine) (w : Work) → Turns n → g.context.limit ≤ b.steps + suc n → b.steps ≤ b'.steps → b'.steps + 64 * b.work + 380 ≤ b.steps + 64 * b'.work
      → Arrived g b' start.address v w → MeetsAt g b e 1 12 ((body >>= λ flow. behind_turn flow (third >>= again n)) v)
  behind_first n b b' v w more long later few h =
      follow g b b' e (leaving go go e) 1 least' 12 4 (λ flow. behind_turn flow (third >>= again n)) later (omega (arith, few))
      (λ u c. behind_body n b (begun_at c.steps u) u c.work more long (omega (arith, later, c.least_steps)) (omega (arith, later, moves, c.least_steps)) (omega (arith, few, c.within)) (arrival g b' go least' 4 u c))
      (λ u c. earlier_comes g b b' e.onward 1 1 12 4 u (omega (arith, later)) (omega (arith, few)) c)
      (λ u c. behind_body n b (begun_at c.steps u) u c.work more long (omega (arith, later, c.least_steps)) (omega (arith, later, c.least_steps)) (omega (arith, few, c.within)) (arrival g b' go 1 4 u c))
      (λ u c. earlier_returns g g.caller b b' e.back 1 1 12 4 u (omega (arith, later)) (omega (arith, few)) c)
      (body v) (turn b' v w h)

  pub turns_meet : (n : ℕ) → Turns n
  turns_meet zero b v w h long =
      follow g b b e (leaving start go e) 1 least 12 4 (λ flow. behind_part flow too_many) (omega arith) (omega arith)
      (λ u c. record { steps = c.steps; state = calm g.program start.address c.work; came = c.came; long = omega (arith, long, c.least_steps) })
      (λ u c. earlier_comes g b b e.onward 1 1 12 4 u (omega arith) (omega arith) c)
      (λ u c. runs_there g b go 1 4 u c)
      (λ u c. earlier_returns g g.caller b b e.back 1 1 12 4 u (omega arith) (omega arith) c)
      (before v) (first b v w h)
  turns_meet (suc n) b v w h long =
      follow g b b e (leaving start go e) 1 least 12 4 (λ flow. behind_part flow (tick 6 >>= λ _. body >>= λ flow. behind_turn flow (third >>= again n))) (omega arith) (omega arith)
      (λ u c.
      let u' : Machine = record u { work = u.work + 6 } in
      behind_first n b (begun_at c.steps u') u' c.work (turns_meet n) long (omega (arith, c.least_steps)) (omega (arith, c.within)) (counted g (begun_at c.steps u) start.address 6 u c.work (arrival g b start least 4 u c)))
      (λ u c. earlier_comes g b b e.onward 1 1 12 4 u (omega arith) (omega arith) c)
      (λ u c. runs_there g b go 1 4 u c)
      (λ u c. earlier_returns g g.caller b b e.back 1 1 12 4 u (omega arith) (omega arith) c)
      (before v) (first b v w h)
