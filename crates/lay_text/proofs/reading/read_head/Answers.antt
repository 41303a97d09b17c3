use Rattle.std.proofs.Common.{refl}
use Rattle.std.proofs.lemmas.Result.{err_from_is_err_and}
use Rattle.lay_text.proofs.Faults.{head_early, step_early}
use Rattle.lay_text.proofs.reading.read_head.Goals as goal

pub returns-in_err-line-clause-read : goal.returns-in_err-line-clause-read
returns-in_err-line-clause-read c =
    let p = err_from_is_err_and c.from_residual-in_err-line.result c.from_residual-in_err-line.ensures.1 in
    let e = c.in_err-line.ensures.read in
    rw (p.1, p.2, e.1) (head_early c.read_count.new.lines c.next_or_fault.new.lines c.in_ok-scalars.scalars _ c.in_ok-scalars.ensures.read e.0 refl)

pub returns-in_err-next_or_fault-in-Some-clause-read :
    goal.returns-in_err-next_or_fault-in-Some-clause-read
returns-in_err-next_or_fault-in-Some-clause-read c =
    let p = err_from_is_err_and c.from_residual-in_err-next_or_fault-in-Some.result c.from_residual-in_err-next_or_fault-in-Some.ensures.1 in
    let e = c.in_err-next_or_fault-in-Some.ensures.read in
    let s = c.in-Some.ensures in
    rw (p.1, p.2, e.1) (step_early c.read_count.new.lines c.next_or_fault.new.lines c.next_or_fault-in-Some.new.lines c.in_ok-scalars.scalars c.in-Some.step _ c.in_ok-line.line.now c.in_ok-scalars.ensures.read c.in_ok-line.ensures.read s.0 s.1 s.2 e.0 refl)
