use Rattle.image_proof.proofs.ImageCalls.{setting_in}
use Rattle.image_proof.proofs.LeadsRight.{has_targets}
use Rattle.image_proof.proofs.target_laws.images_lead_right.Goals as goal

pub returns : goal.returns
returns c = record {
  targets = λ e routines image h answers linked fit size k code g frame lists f.
      has_targets e routines answers image h linked fit size k code g frame lists f
      (c.marks_are_right.ensures.calls (setting_in e code frame lists) g.body (h.emittable.each k code g f.code_at f.items_at).body.placed);
}
