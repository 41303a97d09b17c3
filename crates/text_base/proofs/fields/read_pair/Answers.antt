use Rattle.std.proofs.Common.{◌≡◌}
use Rattle.std.specs.Prelude.{decimal}
use Rattle.text_base.proofs.Numbers.{pair_front}
use Rattle.text_base.proofs.fields.read_pair.Goals as goal

pub returns-in_err-first : goal.returns-in_err-first
returns-in_err-first c =
    rw c.from_residual.ensures (λ m n lt less e. c.in_err-first.ensures m lt (pair_front c.args.bytes.now c.front_field.result.0.now c.front_field.result.1.now m n c.front_field.ensures.0 c.front_field.ensures.1 c.front_field.ensures.2 lt e).0)

pub returns-in_err-others : goal.returns-in_err-others
returns-in_err-others c =
    rw c.from_residual-in_err-others.ensures (λ m n lt less e. c.in_err-others.ensures (decimal n) (pair_front c.args.bytes.now c.front_field.result.0.now c.front_field.result.1.now m n c.front_field.ensures.0 c.front_field.ensures.1 c.front_field.ensures.2 lt e).1)

pub returns-in_err-second : goal.returns-in_err-second
returns-in_err-second c =
    rw c.from_residual-in_err-second.ensures (λ m n lt less e.
    let rest = (pair_front c.args.bytes.now c.front_field.result.0.now c.front_field.result.1.now m n c.front_field.ensures.0 c.front_field.ensures.1 c.front_field.ensures.2 lt e).1 in
    let same : c.in_ok-others.others.now ≡ decimal n = cc (rest, c.in_ok-others.ensures) in
    c.in_err-second.ensures n less same)
