-- Item by item.
use Rattle.image_proof.proofs.Programs.{program_usable}
use Rattle.image_proof.proofs.usable_laws.selected_is_usable.Goals as goal

pub returns : goal.returns
returns c = record { usable = λ p f g is words at. program_usable p is words f g at }
