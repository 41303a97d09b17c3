-- One more piece.
use Rattle.std.proofs.Common.{◌+◌, ◌-◌, sym, subst}
use Rattle.lay_search.specs.Rounds.{Ran}
use Rattle.lay_search.proofs.Rounding.{ran_next}
use Rattle.lay_search.proofs.rounds.run_round.Goals as goal

pub loop-number-preserved : goal.loop-number-preserved
loop-number-preserved c =
    subst (λ ends. Ran c.args.root.now.position.registers c.args.seq.now c.args.quota c.args.best.now.arrangement c.args.first (c.loop-number.number + 1 - c.args.first) ends) (sym c.in_ok-push.ensures.items)
    (ran_next c.args.root.now.position.registers c.args.seq.now c.args.quota c.args.best.now.arrangement c.args.first c.loop-number.number c.loop-number.ends.items c.in_ok-end.end c.loop-number.auto.number c.loop-number.invariant c.in_ok-end.ensures)
