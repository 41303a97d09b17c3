use Rattle.std.proofs.Common.{◌≡◌, ◌∙◌, arith}
use Rattle.std.proofs.lemmas.Result.{err_from_is_err_and}
use Rattle.lay_cert.proofs.Exact.{says_not_read}
use Rattle.cc_check.proofs.LineLemmas.{all_checked, whole_marks, whole_text}
use Rattle.cc_check.proofs.checking.check.Goals as goal

pub returns-in_err-checked-clause-written : goal.returns-in_err-checked-clause-written
returns-in_err-checked-clause-written c = λ fs r.
    let p = err_from_is_err_and c.from_residual-in_err-checked.result c.from_residual-in_err-checked.ensures.1 in
    rw (p.1, p.2) (says_not_read c.args.certificate.now fs r c.in_err-checked.field-0.0 c.in_err-checked.ensures)

pub returns-in_err-checked-clause-fault : goal.returns-in_err-checked-clause-fault
returns-in_err-checked-clause-fault c =
    let p = err_from_is_err_and c.from_residual-in_err-checked.result c.from_residual-in_err-checked.ensures.1 in
    rw (p.1, p.2) c.in_err-checked.ensures

pub returns-clause-passes : goal.returns-clause-passes
returns-clause-passes c = λ fs r. (all_checked c.args.image.now c.args.certificate.now fs _ _ _ c.in_ok-checked.ensures r).passes

pub returns-clause-optimal : goal.returns-clause-optimal
returns-clause-optimal c = λ fs r. (all_checked c.args.image.now c.args.certificate.now fs _ _ _ c.in_ok-checked.ensures r).optimal

pub returns-clause-text : goal.returns-clause-text
returns-clause-text c = λ fs r.
    let all = all_checked c.args.image.now c.args.certificate.now fs _ _ _ c.in_ok-checked.ensures r in
    let kept : c.deref.result.now ≡ c.check_frames.new.framed = c.deref.ensures.value ∙ whole_marks _ _ _ (omega arith) in
    whole_text c.args.image.now fs _ _ _ _ all (rw (kept, c.functions-functions.ensures) at c.in_ok-push_no_frames.ensures)
