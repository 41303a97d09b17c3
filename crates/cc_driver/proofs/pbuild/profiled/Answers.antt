use Rattle.std.proofs.Common.{◌≢◌, ◌<◌, ◌∙◌, length, refl, subst, sym, arith, rules}
use Rattle.std.specs.Prelude.{◌^◌}
use Rattle.cc_files.specs.lay_profile.Recordings.{AreProfileOptions}
use Rattle.cc_files.specs.cc_text.Refusals.{OfMemory}
use Rattle.cc_driver.specs.Profile.{ProfileRefused, BadImage, BadPorts, SourceThen}
use Rattle.cc_driver.specs.ProfileTexts.{options_of}
use Rattle.cc_driver.proofs.WorkLemmas.{image_fault_of, port_fault_of, passed_for}
use Rattle.cc_driver.proofs.ProfileLemmas.{options_fit, texts_same, answer_same, some_fault}
use Rattle.cc_driver.proofs.pbuild.profiled.Goals as goal

pub profile_build-requires-clause-options : goal.profile_build-requires-clause-options
profile_build-requires-clause-options g c =
    let asked = c.args.asked.now in
    let fit = subst (λ o. AreProfileOptions o) (sym c.options-options.ensures)
    (options_fit asked.source.now asked.first.now asked.ports.now asked.image.now asked.registers asked.budget asked.steps c.requires.within) in
    search (rules, fit)

pub profile_build-requires-clause-short : goal.profile_build-requires-clause-short
profile_build-requires-clause-short g c =
    let short : length c.args.files.now.first.items < 2 ^ 32 = omega (arith, c.requires.short) in
    search (rules, short)

pub returns-in-Err-clause-refused : goal.returns-in-Err-clause-refused
returns-in-Err-clause-refused g c = λ some.
    let says = rw c.deref.ensures.value at c.in-Err.ensures.fault in
    BadImage (image_fault_of _ _ c.in-Err.fault _ says c.of_image.ensures some)

pub returns-in-Err-read_ports-clause-refused : goal.returns-in-Err-read_ports-clause-refused
returns-in-Err-read_ports-clause-refused g c = λ some.
    let text = rw c.deref.ensures.value at c.in-Ok.ensures.text in
    let says = rw c.deref-2.ensures.value at c.in-Err-read_ports.ensures.fault in
    BadPorts c.in-Ok.image (record { whole = c.in-Ok.ensures.whole; text = text }) (port_fault_of _ _ c.in-Err-read_ports.fault _ says c.of_ports.ensures some)

pub returns-in-Err-profile_build-clause-refused : goal.returns-in-Err-profile_build-clause-refused
returns-in-Err-profile_build-clause-refused g c = λ some.
    let text = rw c.deref.ensures.value at c.in-Ok.ensures.text in
    let lines = rw c.deref-2.ensures.value at c.in-Ok-read_ports.ensures.text in
    let has = rw c.options-options.ensures at (rw c.deref-3.ensures.value at c.in-Err-profile_build.ensures.refused) in
    let fault = c.in-Err-profile_build.fault in
    SourceThen c.in-Ok.image c.in-Ok-read_ports.ports (record { whole = c.in-Ok.ensures.whole; text = text }) lines fault
    (has (some_fault c.args.asked.now.first.now fault (λ e. some (c.of_profile.ensures ∙ e)))) c.of_profile.ensures

pub returns-in_err-texts_of-clause-refused : goal.returns-in_err-texts_of-clause-refused
returns-in_err-texts_of-clause-refused g c =
    let asked = c.args.asked.now in
    let files = c.args.files.now in
    passed_for c.from_residual.result OfMemory
    (λ why. why ≢ OfMemory → ProfileRefused (options_of asked) asked.first.now asked.ports.now files.first.items files.second.items files.third.items why)
    c.from_residual.ensures.1 (λ some. absurd (some refl))

pub returns-clause-profiled : goal.returns-clause-profiled
returns-clause-profiled g c =
    let text = rw c.deref.ensures.value at c.in-Ok.ensures.text in
    let lines = rw c.deref-2.ensures.value at c.in-Ok-read_ports.ensures.text in
    let profiled = rw c.options-options.ensures at (rw c.deref-3.ensures.value at c.in-Ok-profile_build.ensures.profiled) in
    let texts = c.in_ok-texts_of.ensures in
    record {
      first = c.in-Ok.image;
      lines = c.in-Ok-read_ports.ports;
      recorded = record { whole = c.in-Ok.ensures.whole; text = text };
      ports = lines;
      image = c.in-Ok-profile_build.profiled.image;
      frames = c.in-Ok-profile_build.profiled.cert;
      entered = c.in-Ok-profile_build.profiled.entered.items;
      profiled = profiled;
      claims = c.in-Ok-profile_build.ensures.claims;
      whole = texts.whole;
      stored = texts_same _ c.in_ok-texts_of.field-0 _ _ texts.image texts.name texts.certificate;
      reported = answer_same c.in_ok-texts_of.field-0 _ _ texts.report;
    }
