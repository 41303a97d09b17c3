use Rattle.lay_profile.proofs.Weighings.{is_sequence}
use Rattle.lay_profile.proofs.laws.weighed_is_a_sequence.Goals as goal

pub returns : goal.returns
returns c = is_sequence
