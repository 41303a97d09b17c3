-- By the lines of listings.
use Rattle.c25_asm_proof.proofs.Listings.{listing_read}
use Rattle.c25_asm_proof.proofs.laws.listings_are_assembled.Goals as goal

pub returns : goal.returns
returns c = listing_read
