use Rattle.std.proofs.Common.{rules, arith, ap, ◌∙◌, ◌<◌, ◌==◌, ◌||◌, length}
use Rattle.emit_control.specs.Marked.{is_marked}
use Rattle.emit_control.proofs.Naming.{more_marked, now_marked}
use Rattle.emit_control.proofs.named.Named.add.Goals as goal

pub loop-self-preserved : goal.loop-self-preserved
loop-self-preserved c = ap is_marked c.in_ok-push.ensures.items ∙ more_marked c.loop-self.self.marked.items ∙ c.loop-self.invariant

pub returns : goal.returns
returns c =
    let within : c.args.label < length c.loop-self.self.marked.items = search rules in
    now_marked c.loop-self.self.marked.items c.args.label within ∙ ap (λ f l. l == c.args.label || f l) c.loop-self.invariant
