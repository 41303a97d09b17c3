use Rattle.std.proofs.Common.{◌≡◌, false, rules, sym}
use Rattle.std.proofs.lemmas.Result.{on_ok_weaker}
use Rattle.emit_control.proofs.Emitting.{places}
use Rattle.emit_control.proofs.code.Code.place_behind.Goals as goal

pub returns-in-Label : goal.returns-in-Label
returns-in-Label c =
    let more : c.args.last ≡ false = search rules in
    on_ok_weaker c.place.result (λ adds m. places m c.args.self.now c.place.new.self c.args.ending c.args.last c.args.label c.in-Label.is more (adds m)) c.place.ensures
