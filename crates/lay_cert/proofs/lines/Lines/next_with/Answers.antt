use Rattle.std.proofs.Common.{rules, ◌≡◌, ap, sym, subst, ◌∙◌}
use Rattle.text_base.specs.Lines.{Lacks}
use Rattle.lay_cert.specs.LineReading.{Cursor}
use Rattle.lay_cert.proofs.Places.{begins_not_lacking, begins_not}
use Rattle.lay_cert.proofs.lines.Lines.next_with.Goals as goal

pub returns-in_err-line : goal.returns-in_err-line
returns-in_err-line c =
    let is : c.self.inside.rest.now ≡ c.args.self.now.text = ap (λ (k : Cursor). k.text) c.self.view_is in
    rw c.from_residual.ensures (search rules, begins_not_lacking c.args.word.now c.args.self.now.text (subst (Lacks 10) is c.in_err-line.ensures))

pub returns-in_err-behind_word : goal.returns-in_err-behind_word
returns-in_err-behind_word c =
    let is : c.self.inside.rest.now ≡ c.args.self.now.text = ap (λ (k : Cursor). k.text) c.self.view_is in
    rw c.from_residual-in_err-behind_word.ensures (search rules, begins_not c.args.word.now c.args.self.now.text c.in_ok-line.line.now c.in_ok-line.rest.now c.in_ok-line.ensures.0 (sym is ∙ c.in_ok-line.ensures.1) c.in_err-behind_word.ensures)
