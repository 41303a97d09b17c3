use Rattle.lay_profile.proofs.Differ.{places_differ}
use Rattle.lay_profile.proofs.laws.places_differ.Goals as goal

pub returns : goal.returns
returns c = places_differ
