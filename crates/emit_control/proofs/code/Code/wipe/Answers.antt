use Rattle.std.proofs.Common.{◌≡◌, ◌==◌, ◌∙◌, true, rules, sym, ap}
use Rattle.std.proofs.lemmas.Result.{on_ok_weaker}
use Rattle.emit_control.specs.Settings.{setting_of}
use Rattle.emit_control.proofs.Emitting.{wipes_none}
use Rattle.emit_control.proofs.code.Code.wipe.Goals as goal

pub returns-then-cells-eq0 : goal.returns-then-cells-eq0
returns-then-cells-eq0 c =
    let none : c.cells-cells.result.count ≡ 0 = search rules in
    on_ok_weaker c.place.result
    (λ adds. wipes_none (setting_of c.args.setting.now) c.args.self.now c.place.new.self c.args.object c.args.from c.args.label (sym (ap (λ w. w.count) c.cells-cells.ensures) ∙ none) (adds (setting_of c.args.setting.now)))
    c.place.ensures
