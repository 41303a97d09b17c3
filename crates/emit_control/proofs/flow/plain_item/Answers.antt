use Rattle.std.proofs.Common.{ap, sym, subst, ◌≡◌, ◌+◌}
use Rattle.acc_code.specs.AccView.{item_of}
use Rattle.emit_control.specs.Emits.{Adds}
use Rattle.emit_control.specs.Entries.{Place, CallHelper, Goto}
use Rattle.emit_control.specs.Settings.{setting_of}
use Rattle.emit_control.specs.Emits.{Emits, item_code}
use Rattle.emit_control.proofs.Emitting.{one}
use Rattle.emit_control.proofs.flow.plain_item.Goals as goal

pub returns-in_ok-place-in-Case-clause-emits : goal.returns-in_ok-place-in-Case-clause-emits
returns-in_ok-place-in-Case-clause-emits c =
    let label_is : c.in_ok-label-in-Case.field-0 ≡ c.args.spot.ways.cases + c.in-Case.n = rw c.from.ensures at c.in_ok-label-in-Case.ensures in
    subst (λ x. Emits (setting_of c.args.setting.now) c.args.code.now (item_code (item_of x) c.args.spot.ways c.args.spot.base c.args.spot.next) c.place.new.self) (sym c.in-Case.is)
    (one (setting_of c.args.setting.now) c.args.code.now c.place.new.self (Place (c.args.spot.ways.cases + c.in-Case.n))
    (subst (λ l. Adds (setting_of c.args.setting.now) c.args.code.now (Place l) c.place.new.self) label_is (c.in_ok-place-in-Case.ensures (setting_of c.args.setting.now))))

pub returns-in_ok-helper-in-Helper-clause-emits : goal.returns-in_ok-helper-in-Helper-clause-emits
returns-in_ok-helper-in-Helper-clause-emits c =
    subst (λ x. Emits (setting_of c.args.setting.now) c.args.code.now (item_code (item_of x) c.args.spot.ways c.args.spot.base c.args.spot.next) c.helper.new.self) (sym c.in-Helper.is)
    (one (setting_of c.args.setting.now) c.args.code.now c.helper.new.self (CallHelper c.in-Helper.name) (c.in_ok-helper-in-Helper.ensures (setting_of c.args.setting.now)))

pub returns-in_ok-goto-in-Break-clause-emits : goal.returns-in_ok-goto-in-Break-clause-emits
returns-in_ok-goto-in-Break-clause-emits c =
    subst (λ x. Emits (setting_of c.args.setting.now) c.args.code.now (item_code (item_of x) c.args.spot.ways c.args.spot.base c.args.spot.next) c.goto.new.self) (sym c.in-Break.is)
    (one (setting_of c.args.setting.now) c.args.code.now c.goto.new.self (Goto c.args.spot.ways.broken) (c.in_ok-goto-in-Break.ensures (setting_of c.args.setting.now)))

pub returns-in_ok-goto-in-Continue-clause-emits : goal.returns-in_ok-goto-in-Continue-clause-emits
returns-in_ok-goto-in-Continue-clause-emits c =
    subst (λ x. Emits (setting_of c.args.setting.now) c.args.code.now (item_code (item_of x) c.args.spot.ways c.args.spot.base c.args.spot.next) c.goto-in-Continue.new.self) (sym c.in-Continue.is)
    (one (setting_of c.args.setting.now) c.args.code.now c.goto-in-Continue.new.self (Goto c.args.spot.ways.continued) (c.in_ok-goto-in-Continue.ensures (setting_of c.args.setting.now)))
