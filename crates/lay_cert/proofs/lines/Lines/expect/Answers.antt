use Rattle.std.proofs.Common.{rules, ◌≢◌}
use Rattle.lay_cert.proofs.Places.{not_next_lacking, not_next}
use Rattle.lay_cert.proofs.lines.Lines.expect.Goals as goal

pub returns-in_default : goal.returns-in_default
returns-in_default c = (c.next_fault-fault.ensures, not_next_lacking c.args.text.now c.args.self.now.text c.in_default.ensures.1)

pub returns-else-eq : goal.returns-else-eq
returns-else-eq c =
    let m = c.in-Some.ensures in
    let other : c.in-Some.line.now ≢ c.args.text.now = search rules in
    (c.next_fault-fault.ensures, not_next c.args.text.now c.args.self.now.text c.in-Some.line.now c.next.new.self.text m.whole m.cut other)
