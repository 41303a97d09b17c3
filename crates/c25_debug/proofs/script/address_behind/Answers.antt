use Rattle.std.proofs.Common.{◌∙◌, ◌++◌, sym, ap}
use Rattle.text_base.specs.Hex.{hex4}
use Rattle.text_base.proofs.Numbers.{same_behind}
use Rattle.c25_debug.proofs.script.address_behind.Goals as goal

pub returns-in_err-digits : goal.returns-in_err-digits
returns-in_err-digits c = rw c.from_residual.ensures (λ at lt. c.in_err-digits.ensures (hex4 at))

pub returns-in_err-at : goal.returns-in_err-at
returns-in_err-at c = rw c.from_residual-in_err-at.ensures (λ at lt e. c.in_err-at.ensures at lt (same_behind c.args.prefix.now c.in_ok-digits.digits.now (hex4 at) (sym c.in_ok-digits.ensures ∙ e)))

pub returns : goal.returns
returns c = c.in_ok-digits.ensures ∙ ap (λ d. c.args.prefix.now ++ d) c.in_ok-at.ensures
