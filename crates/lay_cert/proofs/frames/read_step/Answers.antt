use Rattle.std.proofs.Common.{rules, ◌≡◌, true, false, arith}
use Rattle.std.proofs.lemmas.Result.{err_from_is_err_and}
use Rattle.lay_cert.proofs.Steps.{step_read, step_stuck, step_absent}
use Rattle.lay_cert.proofs.frames.read_step.Goals as goal

pub returns-then-not-steps-clause-read : goal.returns-then-not-steps-clause-read
returns-then-not-steps-clause-read c = λ bytes fs name k h.
    let is : c.args.steps ≡ false = search rules in
    step_absent bytes c.args.lines.now c.args.steps fs name k is h

pub returns-in_err-step-clause-read : goal.returns-in_err-step-clause-read
returns-in_err-step-clause-read c = λ bytes fs name k h.
    let p = err_from_is_err_and c.from_residual.result c.from_residual.ensures.1 in
    let e = c.in_err-step.ensures in
    let is : c.args.steps ≡ true = search rules in
    rw (p.1, p.2, e.0) (step_stuck bytes c.args.lines.now c.args.steps fs name k is h (λ n low high. e.1 n low (omega arith)))

pub returns-clause-read : goal.returns-clause-read
returns-clause-read c = λ bytes fs name k h.
    let e = c.in_ok-step.ensures in
    let is : c.args.steps ≡ true = search rules in
    step_read bytes c.args.lines.now _ c.in_ok-step.step c.args.steps fs name k is h e.0 (omega (arith, e.1)) e.2
