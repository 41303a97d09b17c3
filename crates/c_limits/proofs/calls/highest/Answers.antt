use Rattle.std.proofs.Common.{◌≡◌, ◌≤◌, ◌∙◌, ap, sym, subst, arith, inl, inr, slice_index}
use Rattle.std.proofs.lemmas.Bool.{cases_lt}
use Rattle.c_limits.proofs.CallsLemmas.{above_both, level_there, level_below}
use Rattle.c_limits.proofs.calls.highest.Goals as goal

pub bounds-levels-from : goal.bounds-levels-from
bounds-levels-from c =
    let within = level_there c.args.levels.now c.args.called.now c.loop-callee.callee-index c.requires c.loop-callee-test.true
    in omega (arith, within, c.from.ensures)

pub loop-callee-preserved : goal.loop-callee-preserved
loop-callee-preserved c = λ i less.
    let old = c.loop-callee.highest in
    let level = slice_index c.args.levels.now c.from.result in
    let most : (old ≤ c.max-highest.result) × (level ≤ c.max-highest.result) = subst (λ n. (old ≤ n) × (level ≤ n)) (sym c.max-highest.ensures) (above_both old level)
    in elim (cases_lt i c.loop-callee.callee-index) [
      | inl earlier ↦ omega (arith, c.loop-callee.invariant i earlier, most.0)
      | inr last ↦
          let same : slice_index c.args.called.now i ≡ c.from.result = ap (slice_index c.args.called.now) (omega (arith, less, last)) ∙ sym c.from.ensures
          in omega (arith, most.1, ap (slice_index c.args.levels.now) same)
    ]

pub returns : goal.returns
returns c = level_below c.args.levels.now c.args.called.now c.loop-callee.highest (λ i less. c.loop-callee.invariant i (omega (arith, less, c.loop-callee-test.false)))
