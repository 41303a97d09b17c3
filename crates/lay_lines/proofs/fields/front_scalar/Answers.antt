use Rattle.std.proofs.Common.{rules, ◌≡◌, ◌∷◌, [], ◌++◌, arith}
use Rattle.text_base.proofs.Numbers.{no_number, one_number}
use Rattle.lay_lines.proofs.fields.front_scalar.Goals as goal

pub returns-in_err-scalar : goal.returns-in_err-scalar
returns-in_err-scalar c =
    let text : c.args.bytes.now ≡ (32 ∷ []) ++ c.in_ok-fields.fields.now = search rules in
    rw c.from_residual-in_err-scalar.ensures (λ scalar rest lt off. no_number (32 ∷ []) c.args.bytes.now c.in_ok-fields.fields.now c.front_field.result.0.now c.front_field.result.1.now text c.front_field.ensures.0 c.front_field.ensures.1 c.front_field.ensures.2 c.in_err-scalar.ensures scalar rest (omega (arith, c.ranges.scalars.fits)) off)

pub returns-then-scalar-from : goal.returns-then-scalar-from
returns-then-scalar-from c = λ scalar rest lt off e.
    let text : c.args.bytes.now ≡ (32 ∷ []) ++ c.in_ok-fields.fields.now = search rules in
    let same = one_number (32 ∷ []) c.args.bytes.now c.in_ok-fields.fields.now c.front_field.result.0.now c.front_field.result.1.now c.in_ok-scalar.scalar text c.front_field.ensures.0 c.front_field.ensures.1 c.front_field.ensures.2 c.in_ok-scalar.ensures (search rules) scalar rest (omega (arith, c.ranges.scalars.fits)) off e in
    omega (arith, same)
