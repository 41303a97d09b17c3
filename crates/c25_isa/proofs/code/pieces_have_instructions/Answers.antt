use Rattle.c25_isa.proofs.PieceLemmas.{pieces_fit}
use Rattle.c25_isa.proofs.code.pieces_have_instructions.Goals as goal

pub returns : goal.returns
returns c = pieces_fit
