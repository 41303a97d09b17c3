use Rattle.std.proofs.Common.{rules}
use Rattle.std.proofs.lemmas.Result.{err_from_is_err_and}
use Rattle.lay_model.specs.Arrangements.{Arranges}
use Rattle.lay_cert.proofs.Layouts.{cost_read, cost_stuck}
use Rattle.lay_cert.proofs.frames.read_cost.Goals as goal

pub returns-then-not-arranged-clause-read : goal.returns-then-not-arranged-clause-read
returns-then-not-arranged-clause-read c = λ bytes steps fs h blocks bases same s.
    let none : Arranges c.args.scalars c.args.lists.now → ⊥ = search rules in
    rw c.next_fault.ensures (cost_stuck bytes c.args.lines.now c.args.scalars c.args.lists.now bases steps fs h blocks s same (λ a. absurd (none a)))

pub returns-in_err-cost-clause-read : goal.returns-in_err-cost-clause-read
returns-in_err-cost-clause-read c = λ bytes steps fs h blocks bases same s.
    let p = err_from_is_err_and c.from_residual-in_err-cost.result c.from_residual-in_err-cost.ensures.1 in
    let e = c.in_err-cost.ensures in
    rw (p.1, p.2, e.0) (cost_stuck bytes c.args.lines.now c.args.scalars c.args.lists.now bases steps fs h blocks s same (λ a. e.1))

pub returns-clause-read : goal.returns-clause-read
returns-clause-read c = λ bytes steps fs h blocks bases same s.
    let a : Arranges c.args.scalars c.args.lists.now = search rules in
    let e = c.in_ok-cost.ensures in
    cost_read bytes c.args.lines.now _ c.in_ok-cost.cost c.args.scalars c.args.lists.now bases steps fs h blocks s same a e.1 e.2
