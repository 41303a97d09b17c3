-- Behind one more access, at a step of 1: no move is by it.
use Rattle.std.proofs.Common.{◌≡◌, ◌+◌, ap, lit≤, arith}
use Rattle.lay_cost.proofs.Tallies.{bit, behind_access}
use Rattle.lay_cost.specs.Cost.{is_by_step}
use Rattle.lay_cost.proofs.tally.Tally.add_at_one.Goals as goal

pub returns-clause-tally : goal.returns-clause-tally
returns-clause-tally c =
    let t = c.args.self.now in
    let none : t.by_step ≡ t.by_step + bit (is_by_step 1 c.go_to-far.result) = omega arith in
    behind_access 1 c.args.last.now.offsets c.go_to-far.new.self.offsets t.far t.by_step (t.far + c.count.result) t.by_step c.args.place c.go_to-far.result c.requires.place (lit≤ tt) c.requires.spare c.requires.within c.go_to-far.ensures.far c.go_to-far.ensures.gone (ap (λ n. t.far + n) c.count.ensures) none
