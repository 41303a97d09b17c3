-- The lines of the words that are left follow.
use Rattle.std.proofs.Common.{◌≡◌, ◌++◌, length, map}
use Rattle.c25_image.specs.Lines.{lines_text}
use Rattle.c25_dis.specs.Listing.{line_text, lines_of, listing_text}
use Rattle.c25_dis.proofs.writing.listing.Given as goal

abbrev pub invariant-loop-rest : goal.invariant-loop-rest
invariant-loop-rest l = l.text.items ++ lines_text (map line_text (lines_of l.rest)) ≡ listing_text l.words

abbrev pub decreases-loop-rest : goal.decreases-loop-rest
decreases-loop-rest l = length l.rest
