use Rattle.std.proofs.Common.{◌≡◌, ◌==◌, false, rules}
use Rattle.std.proofs.lemmas.Result.{on_ok_weaker}
use Rattle.emit_control.proofs.Emitting.{goes}
use Rattle.emit_control.proofs.code.Code.goto_unless_next.Goals as goal

pub returns : goal.returns
returns c =
    let other : (c.args.label == c.args.next) ≡ false = search rules in
    on_ok_weaker c.goto.result (λ adds m. goes m c.args.self.now c.goto.new.self c.args.label c.args.next other (adds m)) c.goto.ensures
