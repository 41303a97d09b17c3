use Rattle.std.proofs.Common.{ℕ, Bool, List, Some, cond, ap₂, ◌∙◌}
use Rattle.cc_driver.specs.Check.{BadImage, BadCertificate}
use Rattle.cc_driver.proofs.WorkLemmas.{image_fault_of, certificate_fault_of}
use Rattle.cc_driver.proofs.check.checked.Goals as goal

pub returns-in-Err-clause-refused : goal.returns-in-Err-clause-refused
returns-in-Err-clause-refused c = λ some.
    let says = rw c.deref.ensures.value at c.in-Err.ensures.fault in
    BadImage (image_fault_of _ _ c.in-Err.fault _ says c.of_image.ensures some)

pub returns-in-Ok-check-clause-done : goal.returns-in-Ok-check-clause-done
returns-in-Ok-check-clause-done c =
    let image = rw c.deref.ensures.value at c.in-Ok.ensures.text in
    let read = rw c.deref-2.ensures.value at c.in-Ok-check.ensures.reads in
    let text = rw c.deref-2.ensures.value at c.in-Ok-check.ensures.text in
    let passes = rw c.deref-2.ensures.value at c.in-Ok-check.ensures.passes in
    let optimal = rw c.deref-2.ensures.value at c.in-Ok-check.ensures.optimal in
    record {
      contents = c.in-Ok.image;
      frames = read.0;
      image = record { whole = c.in-Ok.ensures.whole; text = image };
      reads = read.1;
      is = c.check_answer.ensures ∙ ap₂ (λ (lines : List ℕ) (pass : Bool). record { text = Some lines; status = cond pass 0 8 }) (text read.0 read.1) (passes read.0 read.1);
      optimal = optimal read.0 read.1;
    }

pub returns-clause-refused : goal.returns-clause-refused
returns-clause-refused c = λ some.
    let image = rw c.deref.ensures.value at c.in-Ok.ensures.text in
    let says = rw c.deref-2.ensures.value at c.in-Err-check.ensures.fault in
    BadCertificate c.in-Ok.image (record { whole = c.in-Ok.ensures.whole; text = image }) (certificate_fault_of _ _ c.in-Err-check.fault _ says c.of_certificate.ensures some)
