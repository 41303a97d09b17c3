use Rattle.c_units.proofs.OwnNames.{own_tokens}
use Rattle.c_units.proofs.laws.statics_keep_to_their_files.Goals as goal

pub returns : goal.returns
returns c = λ files before following file choice s t fresh are in_files. own_tokens files before following file choice s fresh are in_files t
