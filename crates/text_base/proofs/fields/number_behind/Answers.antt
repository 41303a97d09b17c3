use Rattle.std.proofs.Common.{◌∙◌, ◌++◌, sym, ap}
use Rattle.std.specs.Prelude.{decimal}
use Rattle.text_base.proofs.Numbers.{same_behind}
use Rattle.text_base.proofs.fields.number_behind.Goals as goal

pub returns-in_err-digits : goal.returns-in_err-digits
returns-in_err-digits c = rw c.from_residual.ensures (λ n lt. c.in_err-digits.ensures (decimal n))

pub returns-in_err-number : goal.returns-in_err-number
returns-in_err-number c =
    rw c.from_residual-in_err-number.ensures (λ n lt e. c.in_err-number.ensures n lt (same_behind c.args.word.now c.in_ok-digits.digits.now (decimal n) (sym c.in_ok-digits.ensures ∙ e)))

pub returns : goal.returns
returns c = c.in_ok-digits.ensures ∙ ap (λ d. c.args.word.now ++ d) c.in_ok-number.ensures
