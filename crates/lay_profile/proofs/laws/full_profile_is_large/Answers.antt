use Rattle.cc_compile.specs.c25_link.declared.fault.LinkFault.TheVariants.{CodeFull}
use Rattle.lay_profile.specs.Profiles.{searched}
use Rattle.lay_profile.proofs.laws.full_profile_is_large.Goals as goal

pub returns : goal.returns
returns c = λ o bytes r words h. c.full_code_is_large.ensures.jobs (searched o r) bytes words (h.0, h.1, h.2, h.3, (h.4.0, h.4.1, h.4.2.1))
