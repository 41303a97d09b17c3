use Rattle.std.proofs.Common.{◌≡◌, ◌∙◌, sym, ap, subst, decimal}
use Rattle.std.specs.Str.{IsAscii}
use Rattle.std.proofs.lemmas.Bool.{false≢true}
use Rattle.std.proofs.lemmas.Fmt.{parse-decimal, IsAscii-decimal}
use Rattle.std.proofs.lemmas.Str.{IsUtf8-from_ascii}
use Rattle.std.proofs.lemmas.Slice.Eq.{bytes_eq-Decides}
use Rattle.text_base.proofs.decimal.read_decimal.Goals as goal

pub returns-in_default : goal.returns-in_default
returns-in_default c = λ n lt e. c.in_default.ensures.cases.0 (IsUtf8-from_ascii c.args.digits.now (subst IsAscii (sym e) (IsAscii-decimal n lt)))

pub returns-in_default-parse : goal.returns-in_default-parse
returns-in_default-parse c = λ n lt e.
    let r = parse-decimal 64 n c.in-Ok.text.now c.parse.result lt lt (c.in-Ok.ensures.cases.0 ∙ e) c.parse.ensures.value.0 in
    cc c.in_default-parse.is

pub returns-else-eq : goal.returns-else-eq
returns-else-eq c = λ n lt e.
    let r = parse-decimal 64 n c.in-Ok.text.now c.parse.result lt lt (c.in-Ok.ensures.cases.0 ∙ e) c.parse.ensures.value.0 in
    let same : c.in-Ok-parse.number ≡ n = cc c.in-Ok-parse.is in
    let text : c.format.result.now ≡ c.in-Ok.text.now = c.format.ensures.text ∙ ap decimal same ∙ sym e ∙ sym c.in-Ok.ensures.cases.0 in
    false≢true (sym c.if-eq.false ∙ c.eq.ensures ∙ (bytes_eq-Decides c.format.result.now c.in-Ok.text.now).1 text)
