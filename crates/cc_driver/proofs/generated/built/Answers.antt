use Rattle.std.proofs.Common.{◌≢◌, ◌<◌, ◌^◌, ◌∙◌, ap, length, refl, arith, rules}
use Rattle.cc_files.specs.cc_text.Refusals.{OfMemory, of_build_fault}
use Rattle.cc_gen.proofs.Short.{generated_short}
use Rattle.cc_driver.specs.Gen.{GenerateRefused}
use Rattle.cc_driver.proofs.WorkLemmas.{build_fault_of, passed_for}
use Rattle.cc_driver.proofs.generated.built.Goals as goal

pub compile-requires-clause-short : goal.compile-requires-clause-short
compile-requires-clause-short g c =
    let short : length c.deref.result.now < 2 ^ 32 = omega (arith, generated_short c.args.number c.requires.1, ap length (c.deref.ensures.value ∙ c.in_ok-source.ensures)) in
    search (rules, short)

pub returns-in_err-compile-clause-refused : goal.returns-in_err-compile-clause-refused
returns-in_err-compile-clause-refused g c =
    let fault = c.in_err-compile.field-0.0 in
    let has = rw (c.deref.ensures.value, c.plain_options.ensures, c.in_ok-source.ensures) at c.in_err-compile.ensures.refused in
    passed_for c.from_residual-in_err-compile.result (of_build_fault fault) (λ why. why ≢ OfMemory → GenerateRefused c.args.number why) c.from_residual-in_err-compile.ensures.1
    (λ some.
    let is = build_fault_of fault (of_build_fault fault) refl some in
    record { fault = fault; has = has is.0; is = is.1 })
