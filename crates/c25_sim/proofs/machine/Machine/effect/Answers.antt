use Rattle.std.proofs.Common.{sym, ap, ◌∙◌}
use Rattle.c25_isa.specs.Step.{effect, stores}
use Rattle.c25_sim.specs.MachineView.{state_of}
use Rattle.c25_sim.proofs.machine.Machine.effect.Goals as goal

pub returns-in-Sacl-clause-event : goal.returns-in-Sacl-clause-event
returns-in-Sacl-clause-event c =
    let s = state_of c.args.self.now in
    ap (effect s c.args.length) c.in-Sacl.is ∙ ap (stores c.args.length s c.in-Sacl.operand) (sym c.low_word.ensures) ∙ c.store.ensures

pub returns-in-Sach-clause-event : goal.returns-in-Sach-clause-event
returns-in-Sach-clause-event c =
    let s = state_of c.args.self.now in
    ap (effect s c.args.length) c.in-Sach.is ∙ ap (stores c.args.length s c.in-Sach.operand) (sym c.high_word.ensures) ∙ c.store-in-Sach.ensures

pub returns-in-Sar-clause-event : goal.returns-in-Sar-clause-event
returns-in-Sar-clause-event c = ap (effect (state_of c.args.self.now) c.args.length) c.in-Sar.is ∙ c.store-in-Sar.ensures
