use Rattle.std.proofs.lemmas.Result.{err_from_is_err_and}
use Rattle.lay_cert.proofs.Exact.{reads_same, says_not_read, says_same}
use Rattle.lay_cert.proofs.Spelling.{read_whole}
use Rattle.lay_cert.proofs.reading.read_cert.Goals as goal

pub returns-in_err-frames-clause-written : goal.returns-in_err-frames-clause-written
returns-in_err-frames-clause-written c = λ fs r.
    let p = err_from_is_err_and c.from_residual.result c.from_residual.ensures.1 in
    rw (p.1, p.2) (says_not_read c.args.bytes.now fs r c.in_err-frames.field-0.0 c.in_err-frames.ensures)

pub returns-in_err-frames-clause-only : goal.returns-in_err-frames-clause-only
returns-in_err-frames-clause-only c = λ fault some says.
    let p = err_from_is_err_and c.from_residual.result c.from_residual.ensures.1 in
    rw (p.1, p.2) (says_same c.args.bytes.now fault c.in_err-frames.field-0.0 some says c.in_err-frames.ensures)

pub returns-clause-written : goal.returns-clause-written
returns-clause-written c = λ fs r. reads_same c.args.bytes.now c.in_ok-frames.frames.items fs c.in_ok-frames.ensures r

pub returns-clause-only : goal.returns-clause-only
returns-clause-only c = λ fault some says. some (says_not_read c.args.bytes.now c.in_ok-frames.frames.items c.in_ok-frames.ensures fault says)

pub returns-clause-whole : goal.returns-clause-whole
returns-clause-whole c = read_whole c.args.bytes.now c.in_ok-frames.frames.items c.in_ok-frames.ensures
