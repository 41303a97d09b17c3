use Rattle.std.proofs.Common.{[]}
use Rattle.std.proofs.lemmas.Result.{err_from_is_err_and}
use Rattle.lay_cert.specs.CertReading.{Unread}
use Rattle.lay_cert.specs.LineReading.{Stands}
use Rattle.lay_cert.proofs.Places.{reached_start}
use Rattle.lay_cert.proofs.Readers.{none_read, some_read}
use Rattle.lay_cert.proofs.reader.CertReader.new.Goals as goal

pub returns-in_err-steps-clause-read : goal.returns-in_err-steps-clause-read
returns-in_err-steps-clause-read c =
    let p = err_from_is_err_and c.from_residual.result c.from_residual.ensures.1 in
    let start : Stands c.args.bytes.now c.new-lines.result Unread = rw c.new-lines.ensures (reached_start c.args.bytes.now) in
    rw (p.1, p.2) (c.in_err-steps.ensures.read c.args.bytes.now start)

pub invariant_of-result : goal.invariant_of-result
invariant_of-result c =
    let start : Stands c.args.bytes.now c.new-lines.result Unread = rw c.new-lines.ensures (reached_start c.args.bytes.now) in
    some_read c.args.bytes.now [] _ (none_read c.args.bytes.now c.read_version.new.lines c.in_ok-steps.steps c.requires (c.in_ok-steps.ensures.read c.args.bytes.now start))

pub returns-clause-read : goal.returns-clause-read
returns-clause-read c =
    let start : Stands c.args.bytes.now c.new-lines.result Unread = rw c.new-lines.ensures (reached_start c.args.bytes.now) in
    none_read c.args.bytes.now c.read_version.new.lines c.in_ok-steps.steps c.requires (c.in_ok-steps.ensures.read c.args.bytes.now start)
