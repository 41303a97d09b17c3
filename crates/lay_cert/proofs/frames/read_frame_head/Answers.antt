use Rattle.std.proofs.Common.{arith}
use Rattle.std.proofs.lemmas.Result.{err_from_is_err_and}
use Rattle.lay_cert.proofs.Steps.{registers_read, registers_stuck, scalars_read, scalars_stuck}
use Rattle.lay_cert.proofs.frames.read_frame_head.Goals as goal

pub returns-in_err-registers-clause-read : goal.returns-in_err-registers-clause-read
returns-in_err-registers-clause-read c = λ bytes fs name h.
    let p = err_from_is_err_and c.from_residual.result c.from_residual.ensures.1 in
    let e = c.in_err-registers.ensures in
    rw (p.1, p.2, e.0) (registers_stuck bytes c.args.lines.now c.args.steps fs name h (λ n low high. e.1 n low (omega arith)))

pub returns-in_err-step-clause-read : goal.returns-in_err-step-clause-read
returns-in_err-step-clause-read c = λ bytes fs name h.
    let p = err_from_is_err_and c.from_residual-in_err-step.result c.from_residual-in_err-step.ensures.1 in
    let r = c.in_ok-registers.ensures in
    rw (p.1, p.2) (c.in_err-step.ensures.read bytes fs name c.in_ok-registers.registers (registers_read bytes c.args.lines.now _ c.in_ok-registers.registers c.args.steps fs name h r.0 (omega (arith, r.1)) r.2))

pub returns-in_err-scalars-clause-read : goal.returns-in_err-scalars-clause-read
returns-in_err-scalars-clause-read c = λ bytes fs name h.
    let p = err_from_is_err_and c.from_residual-in_err-scalars.result c.from_residual-in_err-scalars.ensures.1 in
    let r = c.in_ok-registers.ensures in
    let s = c.in_ok-step.ensures.read bytes fs name c.in_ok-registers.registers (registers_read bytes c.args.lines.now _ c.in_ok-registers.registers c.args.steps fs name h r.0 (omega (arith, r.1)) r.2) in
    let e = c.in_err-scalars.ensures in
    rw (p.1, p.2, e.0) (scalars_stuck bytes c.read_step.new.lines c.args.steps fs name c.in_ok-registers.registers c.in_ok-step.step s (λ n low high. e.1 n low (omega arith)))

pub returns-clause-read : goal.returns-clause-read
returns-clause-read c = λ bytes fs name h.
    let r = c.in_ok-registers.ensures in
    let s = c.in_ok-step.ensures.read bytes fs name c.in_ok-registers.registers (registers_read bytes c.args.lines.now _ c.in_ok-registers.registers c.args.steps fs name h r.0 (omega (arith, r.1)) r.2) in
    let e = c.in_ok-scalars.ensures in
    scalars_read bytes c.read_step.new.lines _ c.in_ok-scalars.scalars c.args.steps fs name c.in_ok-registers.registers c.in_ok-step.step s (omega (arith, e.1)) e.2
