use Rattle.std.proofs.Common.{rules, refl}
use Rattle.std.proofs.lemmas.Result.{err_from_is_err_and}
use Rattle.lay_text.proofs.Faults.{count_early, count_faulty, count_too_many}
use Rattle.lay_text.proofs.reading.read_count.Goals as goal

pub returns-in_err-line-clause-read : goal.returns-in_err-line-clause-read
returns-in_err-line-clause-read c =
    let p = err_from_is_err_and c.from_residual.result c.from_residual.ensures.1 in
    let e = c.in_err-line.ensures.read in
    rw (p.1, p.2, e.1) (count_early c.args.lines.now c.next_or_fault.new.lines _ c.requires e.0 refl)

pub returns-in_default-clause-read : goal.returns-in_default-clause-read
returns-in_default-clause-read c =
    rw c.last_fault.ensures (count_faulty c.args.lines.now c.next_or_fault.new.lines c.in_ok-line.line.now c.requires c.in_ok-line.ensures.read c.in_default.ensures)

pub returns-then-count-from-clause-read : goal.returns-then-count-from-clause-read
returns-then-count-from-clause-read c =
    count_too_many c.args.lines.now c.next_or_fault.new.lines c.in_ok-line.line.now c.in-Some.count c.requires c.in_ok-line.ensures.read c.in-Some.ensures (search rules) (search rules)
