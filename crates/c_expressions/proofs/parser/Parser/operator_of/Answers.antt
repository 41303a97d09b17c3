use Rattle.std.proofs.Common.{◌≡◌, ◌≢◌, ◌∙◌, None, sym, ap, rules, tests}
use Rattle.c_syntax.specs.Lookahead.{next_of, next_mark}
use Rattle.c_expressions.specs.Operators.{next_infix}
use Rattle.c_expressions.proofs.Nexts.{next_at, next_is, level_none, level_other, level_found}
use Rattle.c_expressions.proofs.parser.Parser.operator_of.Goals as goal

pub returns-in_err-mark : goal.returns-in_err-mark
returns-in_err-mark c =
    let next : next_of c.args.self.now.cursor ≡ next_at None = next_is c.args.self.now.cursor ∙ ap next_at (sym c.mark.ensures ∙ c.in_err-mark.was) in
    rw c.from_residual.ensures (level_none c.args.level (next_of c.args.self.now.cursor) (ap next_infix next))

pub returns-in_err-found : goal.returns-in_err-found
returns-in_err-found c =
    let next : next_of c.args.self.now.cursor ≡ next_mark c.in_ok-mark.field-0 = next_is c.args.self.now.cursor ∙ ap next_at (sym c.mark.ensures ∙ c.in_ok-mark.was) in
    rw c.from_residual-in_err-found.ensures (level_none c.args.level (next_of c.args.self.now.cursor) (ap next_infix next ∙ sym c.infix_of.ensures ∙ c.in_err-found.was))

pub returns-then-eq : goal.returns-then-eq
returns-then-eq c =
    let next : next_of c.args.self.now.cursor ≡ next_mark c.in_ok-mark.field-0 = next_is c.args.self.now.cursor ∙ ap next_at (sym c.mark.ensures ∙ c.in_ok-mark.was) in
    let same : c.in_ok-found.found ≡ c.args.level = search (tests, rules) in
    level_found c.args.level c.in_ok-found.found c.in_ok-found.infix (next_of c.args.self.now.cursor) (ap next_infix next ∙ sym c.infix_of.ensures ∙ c.in_ok-found.was) same

pub returns-else-eq : goal.returns-else-eq
returns-else-eq c =
    let next : next_of c.args.self.now.cursor ≡ next_mark c.in_ok-mark.field-0 = next_is c.args.self.now.cursor ∙ ap next_at (sym c.mark.ensures ∙ c.in_ok-mark.was) in
    let other : c.in_ok-found.found ≢ c.args.level = search (tests, rules) in
    level_other c.args.level c.in_ok-found.found c.in_ok-found.infix (next_of c.args.self.now.cursor) (ap next_infix next ∙ sym c.infix_of.ensures ∙ c.in_ok-found.was) other
