use Rattle.image_proof.specs.PlanPlaces.{places_of}
use Rattle.image_proof.specs.Agreeing.{emission_of}
use Rattle.image_proof.proofs.image_walks_laws.programs_walk.Goals as goal

pub returns : goal.returns
returns c = record {
  walks = λ t plan arrangements step routines image k code g frame lists is words arranged planned emittable low linked fit size f.
      c.images_walk.ensures.walks (emission_of t plan arrangements step) routines image k code g frame lists
      (record {
        code = (c.typed_programs_keep.ensures.of_words (places_of plan) t is words (c.translation_keeps_runs.ensures.far t arrangements plan arranged planned)).code;
        emittable = emittable;
        arranged = arranged;
        planned = planned;
        step = low;
      })
      linked fit size f;
}
