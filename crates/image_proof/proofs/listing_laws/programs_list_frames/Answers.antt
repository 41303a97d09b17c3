use Rattle.image_proof.specs.PlanPlaces.{places_of}
use Rattle.image_proof.specs.Agreeing.{emission_of}
use Rattle.image_proof.proofs.listing_laws.programs_list_frames.Goals as goal

pub returns : goal.returns
returns c = record {
  frames = λ t plan arrangements step routines image is words arranged planned emittable low linked fit size.
      c.images_list_frames.ensures.frames (emission_of t plan arrangements step) routines image
      (record {
        code = (c.typed_programs_keep.ensures.of_words (places_of plan) t is words (c.translation_keeps_runs.ensures.far t arrangements plan arranged planned)).code;
        emittable = emittable;
        arranged = arranged;
        planned = planned;
        step = low;
      })
      linked fit size;
}
