-- One more piece.
use Rattle.std.proofs.Common.{◌+◌, ◌-◌, sym, subst}
use Rattle.lay_search.specs.Rounds.{Ran}
use Rattle.lay_search.proofs.Rounding.{ran_next}
use Rattle.lay_par.proofs.pieces.run_in_turn.Goals as goal

pub loop-number-preserved : goal.loop-number-preserved
loop-number-preserved g c =
    let k = c.args.root.now.position.registers in
    let seq = c.args.seq.now in
    let quota = c.args.pieces.quota in
    let best = c.args.best.now.arrangement in
    let first = c.args.pieces.first in
    let number = c.loop-number.number in
    subst (λ ends. Ran k seq quota best first (number + 1 - first) ends) (sym c.in_ok-push.ensures.items)
    (ran_next k seq quota best first number c.loop-number.ends.items c.in_ok-end.end c.loop-number.auto.number c.loop-number.invariant c.in_ok-end.ensures)
