use Rattle.std.proofs.Common.{rules, ◌≡◌, ◌++◌, arith}
use Rattle.std.specs.Prelude.{codes}
use Rattle.text_base.proofs.Numbers.{no_number, one_number}
use Rattle.lay_lines.proofs.fields.front_weight.Goals as goal
use Rattle.lay_lines.proofs.fields.front_weight.Goals.{then-weight-eq0-via-then-weight-eq0, then-weight-eq0-via-else-weight-eq0+then-weight-from}

pub returns-in_err-weight : goal.returns-in_err-weight
returns-in_err-weight c =
    let text : c.args.line.now ≡ codes "block " ++ c.in_ok-fields.fields.now = search rules in
    rw c.from_residual-in_err-weight.ensures (λ weight rest low high off. no_number (codes "block ") c.args.line.now c.in_ok-fields.fields.now c.front_field.result.0.now c.front_field.result.1.now text c.front_field.ensures.0 c.front_field.ensures.1 c.front_field.ensures.2 c.in_err-weight.ensures weight rest (omega arith) off)

pub returns-then-weight-eq0 : goal.returns-then-weight-eq0
returns-then-weight-eq0 c = λ weight rest low high off e.
    let text : c.args.line.now ≡ codes "block " ++ c.in_ok-fields.fields.now = search rules in
    let same : c.in_ok-weight.weight ≡ weight = one_number (codes "block ") c.args.line.now c.in_ok-fields.fields.now c.front_field.result.0.now c.front_field.result.1.now c.in_ok-weight.weight text c.front_field.ensures.0 c.front_field.ensures.1 c.front_field.ensures.2 c.in_ok-weight.ensures (search rules) weight rest (omega arith) off e in
    elim c.then-weight-eq0.branch [ then-weight-eq0-via-then-weight-eq0 w ↦ omega (arith, same) | then-weight-eq0-via-else-weight-eq0+then-weight-from w ↦ omega (arith, same) ]
