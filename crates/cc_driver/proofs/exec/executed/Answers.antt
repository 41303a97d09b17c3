use Rattle.std.proofs.Common.{◌≢◌, refl}
use Rattle.cc_files.specs.cc_text.Refusals.{OfMemory, of_build_fault}
use Rattle.cc_driver.specs.Exec.{ExecuteRefused, SourceThen}
use Rattle.cc_driver.proofs.WorkLemmas.{build_fault_of, passed_for}
use Rattle.cc_driver.proofs.exec.executed.Goals as goal

pub returns-in_err-built-clause-refused : goal.returns-in_err-built-clause-refused
returns-in_err-built-clause-refused g c =
    let fault = c.in_err-built.field-0.0 in
    let text = rw c.deref.ensures.value at c.in-Ok.ensures.text in
    let has = rw (c.deref-2.ensures.value, c.plain_options.ensures) at c.in_err-built.ensures.refused in
    passed_for c.from_residual.result (of_build_fault fault)
    (λ why. why ≢ OfMemory → ExecuteRefused c.args.asked.now.ports.now c.args.files.now.bytes.items c.args.files.now.more.items why) c.from_residual.ensures.1
    (λ some.
    let is = build_fault_of fault (of_build_fault fault) refl some in
    SourceThen _ text fault (has is.0) is.1)
