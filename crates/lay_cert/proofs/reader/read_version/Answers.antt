use Rattle.std.proofs.Common.{rules, ◌≡◌, ◌≢◌}
use Rattle.std.proofs.lemmas.Result.{err_from_is_err_and}
use Rattle.lay_cert.proofs.Steps.{version_1, version_2, version_other, version_stuck}
use Rattle.lay_cert.proofs.reader.read_version.Goals as goal

pub returns-in_err-found-clause-read : goal.returns-in_err-found-clause-read
returns-in_err-found-clause-read c = λ bytes start.
    let p = err_from_is_err_and c.from_residual.result c.from_residual.ensures.1 in
    let e = c.in_err-found.ensures in
    rw (p.1, p.2, e.0) (version_stuck bytes c.args.lines.now start e.1)

pub returns-in-1-clause-read : goal.returns-in-1-clause-read
returns-in-1-clause-read c = λ bytes start.
    let is : c.in_ok-found.found ≡ 1 = search rules in
    version_1 bytes c.args.lines.now c.number.new.self c.in_ok-found.found start c.in_ok-found.ensures.2 is

pub returns-in-2-clause-read : goal.returns-in-2-clause-read
returns-in-2-clause-read c = λ bytes start.
    let is : c.in_ok-found.found ≡ 2 = search rules in
    version_2 bytes c.args.lines.now c.number.new.self c.in_ok-found.found start c.in_ok-found.ensures.2 is

pub returns-in_default-clause-read : goal.returns-in_default-clause-read
returns-in_default-clause-read c = λ bytes start.
    let not_1 : c.in_ok-found.found ≢ 1 = search rules in
    let not_2 : c.in_ok-found.found ≢ 2 = search rules in
    version_other bytes c.args.lines.now c.number.new.self c.in_ok-found.found start c.in_ok-found.ensures.1 c.in_ok-found.ensures.2 not_1 not_2
