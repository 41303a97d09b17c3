use Rattle.lay_profile.proofs.BuiltShapes.{has_shape}
use Rattle.lay_profile.proofs.laws.built_images_have_the_shape.Goals as goal

pub returns : goal.returns
returns c = has_shape
