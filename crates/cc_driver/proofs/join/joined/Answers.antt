use Rattle.std.proofs.Common.{◌≢◌, refl}
use Rattle.cc_files.specs.cc_text.Refusals.{OfMemory, of_unit_fault}
use Rattle.cc_files.specs.Wants.{contents_of}
use Rattle.cc_driver.specs.Join.{JoinRefused}
use Rattle.cc_driver.proofs.WorkLemmas.{unit_fault_of, passed_for}
use Rattle.cc_driver.proofs.join.joined.Goals as goal

pub returns-in_err-join_text-clause-refused : goal.returns-in_err-join_text-clause-refused
returns-in_err-join_text-clause-refused c =
    let fault = c.in_err-join_text.field-0.0 in
    passed_for c.from_residual.result (of_unit_fault fault) (λ why. why ≢ OfMemory → JoinRefused (contents_of c.args.sources.now) why) c.from_residual.ensures.1
    (λ some.
    let is = unit_fault_of fault (of_unit_fault fault) refl some in
    record { fault = fault; some = is.0; has = c.in_err-join_text.ensures.fault is.0; is = is.1 })
