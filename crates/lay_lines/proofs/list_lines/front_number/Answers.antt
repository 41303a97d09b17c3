use Rattle.std.proofs.Common.{rules, ◌≡◌, ◌∷◌, [], ◌++◌}
use Rattle.text_base.proofs.Numbers.{no_number}
use Rattle.lay_lines.proofs.list_lines.front_number.Goals as goal

pub returns-in_err-number : goal.returns-in_err-number
returns-in_err-number c =
    let text : c.args.bytes.now ≡ (32 ∷ []) ++ c.in_ok-fields.fields.now = search rules in
    rw c.from_residual-in_err-number.ensures (λ n rest lt off. no_number (32 ∷ []) c.args.bytes.now c.in_ok-fields.fields.now c.front_field.result.0.now c.front_field.result.1.now text c.front_field.ensures.0 c.front_field.ensures.1 c.front_field.ensures.2 c.in_err-number.ensures n rest lt off)
