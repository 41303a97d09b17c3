-- The first piece, and those behind it.
use Rattle.std.proofs.Common.{◌+◌, ◌-◌, ◌≤◌, sym, subst, arith}
use Rattle.std.proofs.lemmas.Result.{IfOk-at_ok}
use Rattle.lay_search.specs.Rounds.{Ran}
use Rattle.lay_par.proofs.Halves.{ran_joined}
use Rattle.lay_par.proofs.pieces.+pieces.Goals as goal

pub returns : goal.returns
returns g t c =
    let k = c.args.root.now.position.registers in
    let seq = c.args.seq.now in
    let quota = c.args.pieces.quota in
    let best = c.args.best.now.arrangement in
    let first = c.args.pieces.first in
    let end = c.args.pieces.end in
    let middle = c.args.pieces.first + 1 in
    let from : first ≤ middle = omega arith in
    let to : middle ≤ end = omega (arith, c.if-pieces-lt2.false) in
    let lower = IfOk-at_ok (λ ends. Ran k seq quota best first (middle - first) ends.items) c.in_ok-ends.was c.join-first.ensures.first in
    let upper = IfOk-at_ok (λ ends. Ran k seq quota best middle (end - middle) ends.items) c.in_ok-more.was c.join-first.ensures.second in
    subst (λ ends. Ran k seq quota best first (end - first) ends) (sym c.in_ok-append.ensures.items) (ran_joined k seq quota best first middle end c.in_ok-ends.ends.items c.in_ok-more.more.items from to lower upper)
