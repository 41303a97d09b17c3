-- Behind one more access, at a step above 1.
use Rattle.std.proofs.Common.{◌+◌, ap, sym, ◌∙◌}
use Rattle.lay_cost.proofs.Tallies.{bit, behind_access, at_step}
use Rattle.lay_cost.proofs.tally.Tally.add_at_step.Goals as goal

pub returns-clause-tally : goal.returns-clause-tally
returns-clause-tally c =
    let t = c.args.self.now in
    behind_access c.args.step c.args.last.now.offsets c.go_to-far.new.self.offsets t.far t.by_step (t.far + c.count.result) (t.by_step + c.count-2.result) c.args.place c.go_to-far.result c.requires.place c.requires.short c.requires.spare c.requires.within c.go_to-far.ensures.far c.go_to-far.ensures.gone (ap (λ n. t.far + n) c.count.ensures) (ap (λ n. t.by_step + n) (c.count-2.ensures ∙ sym (ap bit (at_step c.args.step c.go_to-far.result c.requires.step))))
