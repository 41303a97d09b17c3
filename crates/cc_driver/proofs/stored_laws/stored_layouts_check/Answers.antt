use Rattle.cc_driver.proofs.StoredLemmas.{checks_stored}
use Rattle.cc_driver.proofs.stored_laws.stored_layouts_check.Goals as goal

pub returns : goal.returns
returns c = λ o name source image certificate reported checked h k.
    checks_stored o name source image certificate reported checked h (c.built_images_have_the_shape.ensures o source h.image h.frames h.built).named (c.built_functions_differ.ensures o source h.image h.frames h.built) k
