use Rattle.image_proof.specs.PlanPlaces.{places_of}
use Rattle.image_proof.specs.Agreeing.{emission_of}
use Rattle.image_proof.proofs.target_laws.programs_lead_right.Goals as goal

pub returns : goal.returns
returns c = record {
  targets = λ t plan arrangements step routines image is words arranged planned emittable low answers linked fit size.
      c.images_lead_right.ensures.targets (emission_of t plan arrangements step) routines image
      (record {
        code = (c.typed_programs_keep.ensures.of_words (places_of plan) t is words (c.translation_keeps_runs.ensures.far t arrangements plan arranged planned)).code;
        emittable = emittable;
        arranged = arranged;
        planned = planned;
        step = low;
      })
      answers linked fit size;
}
