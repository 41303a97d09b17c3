use Rattle.std.proofs.Common.{arith, rules}
use Rattle.c25_image.proofs.PortLines.{not_without_space, not_decimal, port_is, word_is}
use Rattle.c25_image.proofs.ports.read_line.Goals as goal

pub returns-in_err-digits : goal.returns-in_err-digits
returns-in_err-digits c = rw c.from_residual.ensures (not_without_space c.args.line.now c.in_err-digits.ensures)

pub returns-in_err-port : goal.returns-in_err-port
returns-in_err-port c = rw c.from_residual-in_err-port.ensures (not_decimal c.args.line.now c.in_ok-digits.digits.now c.in_ok-digits.rest.now c.in_ok-digits.ensures.0 c.in_ok-digits.ensures.1 c.in_err-port.ensures)

pub returns-then-port-gt-LAST_PORT : goal.returns-then-port-gt-LAST_PORT
returns-then-port-gt-LAST_PORT c = λ put p.
    let same = port_is c.args.line.now c.in_ok-digits.digits.now c.in_ok-digits.rest.now c.in_ok-port.port c.in_ok-digits.ensures.0 c.in_ok-digits.ensures.1 c.in_ok-port.ensures (search rules) put p in
    omega (arith, p.port)

pub returns-in_err-word : goal.returns-in_err-word
returns-in_err-word c = rw c.from_residual-in_err-word.ensures (λ put p. c.in_err-word.ensures put.1 (word_is c.args.line.now c.in_ok-digits.digits.now c.in_ok-digits.rest.now c.behind_blanks.result.now c.in_ok-digits.ensures.0 c.in_ok-digits.ensures.1 c.behind_blanks.ensures put p))
