use Rattle.std.proofs.Common.{◌≡◌, ◌∷◌, [], length, ◌∙◌, ap, sym, arith}
use Rattle.std.specs.Str.Lines.{lines}
use Rattle.std.proofs.lemmas.List.{take_all, drop_all}
use Rattle.text_base.proofs.TextLines.{lines_front, lines_last}
use Rattle.text_base.proofs.lines.next_line.Goals as goal

pub returns-in-Some-clause-lines : goal.returns-in-Some-clause-lines
returns-in-Some-clause-lines c =
    ap lines c.in-Some.ensures.1 ∙ lines_front c.in-Some.line.now c.in-Some.rest.now c.in-Some.ensures.0 ∙ ap (λ l. l ∷ lines c.in-Some.rest.now) (sym c.without_return.ensures)

pub returns-in-None-clause-lines : goal.returns-in-None-clause-lines
returns-in-None-clause-lines c =
    let front : c.split_at.result.0.now ≡ c.args.bytes.now = c.split_at.ensures.front ∙ take_all (length c.args.bytes.now) c.args.bytes.now (omega arith) in
    let back : c.split_at.result.1.now ≡ [] = c.split_at.ensures.back ∙ drop_all (length c.args.bytes.now) c.args.bytes.now (omega arith) in
    lines_last c.args.bytes.now c.requires c.in-None.ensures ∙ ap (λ l. l ∷ []) (sym front) ∙ ap (λ l. c.split_at.result.0.now ∷ lines l) (sym back)
