use Rattle.std.proofs.Common.{◌≢◌, refl}
use Rattle.cc_files.specs.cc_text.Refusals.{OfMemory, of_build_fault}
use Rattle.cc_driver.specs.Means.{MeansRefused, SourceThen}
use Rattle.cc_driver.proofs.WorkLemmas.{build_fault_of, passed_for}
use Rattle.cc_driver.proofs.means.evaluated.Goals as goal

pub returns-in_err-program-clause-refused : goal.returns-in_err-program-clause-refused
returns-in_err-program-clause-refused c =
    let fault = c.in_err-program.field-0.0 in
    let text = rw c.deref.ensures.value at c.in-Ok.ensures.text in
    let none = rw c.deref-2.ensures.value at c.in_err-program.ensures.refused in
    passed_for c.from_residual.result (of_build_fault fault)
    (λ why. why ≢ OfMemory → MeansRefused c.args.asked.now.ports.now c.args.files.now.bytes.items c.args.files.now.more.items why) c.from_residual.ensures.1
    (λ some.
    let is = build_fault_of fault (of_build_fault fault) refl some in
    SourceThen _ text fault (none is.0) is.1)
