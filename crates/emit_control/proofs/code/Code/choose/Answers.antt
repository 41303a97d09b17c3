use Rattle.std.proofs.Common.{◌≡◌, ◌==◌, true, false, rules, subst}
use Rattle.std.proofs.lemmas.Result.{on_ok_weaker}
use Rattle.emit_control.specs.Emits.{Adds}
use Rattle.emit_control.specs.Entries.{Branch}
use Rattle.emit_control.proofs.Emitting.{one_jump, both_jumps}
use Rattle.emit_control.proofs.code.Code.choose.Goals as goal

pub returns-then-one-next : goal.returns-then-one-next
returns-then-one-next c =
    let is : (c.args.one == c.args.next) ≡ true = search rules in
    on_ok_weaker c.branch-self.result
    (λ adds m. one_jump m c.args.self.now c.branch-self.new.self c.args.test c.args.one c.args.other c.args.next is
    (subst (λ t. Adds m c.args.self.now (Branch t c.args.other) c.branch-self.new.self) c.opposite.ensures (adds m)))
    c.branch-self.ensures

pub returns : goal.returns
returns c =
    let other : (c.args.one == c.args.next) ≡ false = search rules in
    on_ok_weaker c.goto_unless_next.result
    (λ emits m. both_jumps m c.args.self.now c.branch-self-2.new.self c.goto_unless_next.new.self c.args.test c.args.one c.args.other c.args.next other (c.in_ok-branch.ensures m) (emits m))
    c.goto_unless_next.ensures
