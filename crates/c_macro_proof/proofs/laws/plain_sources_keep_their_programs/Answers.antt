use Rattle.c_macro_proof.proofs.PlaceLemmas.{kept, had}
use Rattle.c_macro_proof.proofs.laws.plain_sources_keep_their_programs.Goals as goal

pub returns-clause-kept : goal.returns-clause-kept
returns-clause-kept c = kept

pub returns-clause-had : goal.returns-clause-had
returns-clause-had c = had
