use Rattle.image_proof.proofs.Sparing.{own_spared, frames_spared}
use Rattle.image_proof.proofs.site_laws.sites_spare_frames.Goals as goal

pub returns : goal.returns
returns c = record {
  own = λ e g active kept stack stores code items frame lists a is are keeps f among. own_spared e is g active are kept keeps stack stores code items frame lists a f among;
  callers = λ e g active kept stack stores caller code items frame lists a register is are keeps behind f among.
      frames_spared e is g active are kept keeps stack stores caller code items frame lists a register behind f among;
}
