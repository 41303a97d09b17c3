use Rattle.std.proofs.Common.{◌≡◌, arith, sym, subst}
use Rattle.std.specs.Fmt.{digits}
use Rattle.std.proofs.lemmas.Grind.{common_steps}
use Rattle.lay_cert.specs.Frames.{AreWhole}
use Rattle.lay_cert.specs.CertReading.{Reads}
use Rattle.lay_cert.specs.CertText.{cert_text}
use Rattle.lay_cert.proofs.Written.{written_read}
use Rattle.lay_cert.proofs.writing.write_cert.Goals as goal

pub returns-clause-text : goal.returns-clause-text
unfolding digits
returns-clause-text c = grind (arith, common_steps)

pub returns-clause-read_back : goal.returns-clause-read_back
unfolding digits
returns-clause-read_back c =
    let text : c.extend_from_slice-2.new.self.items ≡ cert_text c.args.certificate.now = grind (arith, common_steps) in
    subst (λ t. Reads t c.args.certificate.now) (sym text) (written_read c.args.certificate.now (subst AreWhole c.certificate.view_is (rw c.deref.ensures.value at c.in_ok-push_frames.ensures.whole)))
