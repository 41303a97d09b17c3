use Rattle.image_proof.proofs.Listing.{lists_frame}
use Rattle.image_proof.proofs.listing_laws.images_list_frames.Goals as goal

pub returns : goal.returns
returns c = record {
  frames = λ e routines image is linked fit size k code g frame lists f.
      lists_frame e routines image linked fit size k code g frame lists (c.images_walk.ensures.walks e routines image k code g frame lists is linked fit size f) (c.images_are_direct.ensures.direct e routines image is linked fit size k code g frame lists f);
}
