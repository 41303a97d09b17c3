use Rattle.std.proofs.Common.{◌≢◌, ◌<◌, ◌∙◌, length, ap, refl, sym, subst, arith, rules}
use Rattle.std.specs.Prelude.{◌^◌}
use Rattle.cc_check.specs.lay_cert.CertReading.{Reads}
use Rattle.cc_report.specs.Report.{report_lines}
use Rattle.cc_files.specs.frame_layouts.Frames.{AreOptions}
use Rattle.cc_files.specs.cc_text.Refusals.{OfMemory, of_build_fault}
use Rattle.cc_driver.specs.Build.{IsRefusedFor}
use Rattle.cc_driver.specs.BuildTexts.{options_of}
use Rattle.cc_driver.proofs.WorkLemmas.{build_fault_of, passed_for}
use Rattle.cc_driver.proofs.BuildLemmas.{options_fit, texts_same, answer_same}
use Rattle.cc_driver.proofs.build.built.Goals as goal

pub compile-requires-clause-options : goal.compile-requires-clause-options
compile-requires-clause-options g c =
    let asked = c.args.asked.now in
    let fit = subst (λ o. AreOptions o) (sym c.options.ensures) (options_fit asked.source.now asked.image.now asked.registers asked.budget asked.step c.requires.within) in
    search (rules, fit)

pub compile-requires-clause-short : goal.compile-requires-clause-short
compile-requires-clause-short g c =
    let short : length c.args.source.now < 2 ^ 32 = omega (arith, c.requires.short) in
    search (rules, short)

pub returns-in_err-built-clause-refused : goal.returns-in_err-built-clause-refused
returns-in_err-built-clause-refused g c =
    let fault = c.in_err-built.field-0.0 in
    let has = rw c.options.ensures at c.in_err-built.ensures.refused in
    passed_for c.from_residual.result (of_build_fault fault) (λ why. why ≢ OfMemory → IsRefusedFor (options_of c.args.asked.now) why c.args.source.now) c.from_residual.ensures.1
    (λ some.
    let is = build_fault_of fault (of_build_fault fault) refl some in
    record { fault = fault; has = has is.0; is = is.1 })

pub returns-in_err-texts_of-clause-refused : goal.returns-in_err-texts_of-clause-refused
returns-in_err-texts_of-clause-refused g c =
    passed_for c.from_residual-in_err-texts_of.result OfMemory (λ why. why ≢ OfMemory → IsRefusedFor (options_of c.args.asked.now) why c.args.source.now) c.from_residual-in_err-texts_of.ensures.1 (λ some. absurd (some refl))

pub returns-clause-built : goal.returns-clause-built
returns-clause-built g c =
    let texts = c.in_ok-texts_of.ensures in
    let built = rw c.options.ensures at c.in_ok-built.ensures.built in
    let made = rw c.options.ensures at c.in_ok-built.ensures.made in
    record {
      image = c.in_ok-built.built.image;
      frames = c.in_ok-built.built.certificate;
      built = built;
      made = made;
      claims = c.in_ok-built.ensures.claims;
      whole = texts.whole;
      reads = subst (λ t. Reads t c.in_ok-built.built.certificate) texts.certificate texts.read_back;
      stored = texts_same _ c.in_ok-texts_of.field-0 _ _ texts.image texts.name texts.certificate;
      reported = answer_same c.in_ok-texts_of.field-0 _ (texts.report ∙ ap report_lines c.in_ok-built.ensures.rows);
    }
