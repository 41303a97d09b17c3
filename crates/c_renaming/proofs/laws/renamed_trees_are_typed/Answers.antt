use Rattle.c_renaming.proofs.ProgramLemmas.{typed_renamed}
use Rattle.c_renaming.proofs.laws.renamed_trees_are_typed.Goals as goal

pub returns : goal.returns
returns c = typed_renamed
