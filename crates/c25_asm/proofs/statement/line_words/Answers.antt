-- A line that holds something, but no label.
use Rattle.std.proofs.Common.{◌≡◌, sym, ap, ◌∙◌, None}
use Rattle.std.specs.Prelude.{option_copied}
use Rattle.c25_asm.specs.LabelView.{known}
use Rattle.c25_asm.specs.Cuts.{before_colon}
use Rattle.c25_asm.specs.Statements.{filled_by, statement_words}
use Rattle.c25_asm.proofs.StatementLemmas.{filled}
use Rattle.c25_asm.proofs.statement.line_words.Goals as goal

pub returns-in-None : goal.returns-in-None
returns-in-None c =
    let labels = known c.args.labels.now in
    let text = c.statement-text.result.now in
    let none : None ≡ before_colon text = sym (ap option_copied c.in-None.is) ∙ c.before_colon.ensures in
    c.instruction.ensures
    ∙ ap (λ o. filled_by o labels c.args.number text) none
    ∙ sym (filled labels c.args.number text c.if-is_empty.ensures)
    ∙ ap (statement_words labels c.args.number) c.statement-text.ensures
