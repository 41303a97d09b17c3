use Rattle.c_renaming.proofs.PlaceLemmas.{source_renamed}
use Rattle.c_renaming.proofs.laws.renamed_tokens_derive.Goals as goal

pub returns : goal.returns
returns c = source_renamed
