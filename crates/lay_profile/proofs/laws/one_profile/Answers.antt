use Rattle.lay_profile.proofs.OneProfile.{one_image, one_framed, one_entered, profiled_no_fault, other_source_alone, own_image_accepted}
use Rattle.lay_profile.proofs.laws.one_profile.Goals as goal

pub returns : goal.returns
returns c = record {
  image = one_image;
  frames = one_framed;
  entered = one_entered;
  none = profiled_no_fault;
  other_source_alone = other_source_alone;
  own_image = own_image_accepted;
}
