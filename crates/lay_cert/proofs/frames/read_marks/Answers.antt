use Rattle.std.proofs.Common.{rules, ◌≡◌, true, false}
use Rattle.std.proofs.lemmas.Result.{err_from_is_err_and}
use Rattle.lay_lines.specs.MarkText.{is_short}
use Rattle.lay_cert.specs.CertReading.{marked}
use Rattle.lay_cert.proofs.Steps.{marks_stuck, marks_short, marks_counted, frame_closed, frame_end_stuck}
use Rattle.lay_cert.proofs.frames.read_marks.Goals as goal

pub returns-in_err-count : goal.returns-in_err-count
returns-in_err-count c = λ bytes steps fs f number start.
    let p = err_from_is_err_and c.from_residual.result c.from_residual.ensures.1 in
    let e = c.in_err-count.ensures in
    rw (p.1, p.2, e.0) (marks_stuck bytes c.args.lines.now steps fs f start e.1)

pub returns-then-is_short : goal.returns-then-is_short
returns-then-is_short c = λ bytes steps fs f number start.
    let e = c.in_ok-count.ensures in
    let short : is_short c.in_ok-count.count c.number.new.self.text ≡ true = search rules in
    marks_short bytes c.args.lines.now c.number.new.self c.in_ok-count.count c.args.frame steps fs f number start e.1 e.2 short

pub returns-in_err-marks : goal.returns-in_err-marks
returns-in_err-marks c = λ bytes steps fs f number start.
    let p = err_from_is_err_and c.from_residual-in_err-marks.result c.from_residual-in_err-marks.ensures.1 in
    let e = c.in_ok-count.ensures in
    let enough : is_short c.in_ok-count.count c.number.new.self.text ≡ false = search rules in
    rw (p.1, p.2) (c.in_err-marks.ensures bytes steps fs f (marks_counted bytes c.args.lines.now c.number.new.self c.in_ok-count.count steps fs f start e.1 e.2 enough))

pub returns-in_err-expect : goal.returns-in_err-expect
returns-in_err-expect c = λ bytes steps fs f number start.
    let p = err_from_is_err_and c.from_residual-in_err-expect.result c.from_residual-in_err-expect.ensures.1 in
    let e = c.in_ok-count.ensures in
    let enough : is_short c.in_ok-count.count c.number.new.self.text ≡ false = search rules in
    let read = c.in_ok-marks.ensures bytes steps fs f (marks_counted bytes c.args.lines.now c.number.new.self c.in_ok-count.count steps fs f start e.1 e.2 enough) in
    let w = c.in_err-expect.ensures in
    rw (p.1, p.2, w.0) (frame_end_stuck bytes c.read_mark_lines.new.lines steps fs (marked f c.in_ok-marks.marks.items) read w.1)

pub returns : goal.returns
returns c = λ bytes steps fs f number start.
    let e = c.in_ok-count.ensures in
    let enough : is_short c.in_ok-count.count c.number.new.self.text ≡ false = search rules in
    let read = c.in_ok-marks.ensures bytes steps fs f (marks_counted bytes c.args.lines.now c.number.new.self c.in_ok-count.count steps fs f start e.1 e.2 enough) in
    frame_closed bytes c.read_mark_lines.new.lines c.expect.new.self steps fs (marked f c.in_ok-marks.marks.items) read c.in_ok-expect.ensures
