use Rattle.cc_driver.proofs.WorkLemmas.{image_fault_of}
use Rattle.cc_driver.proofs.dis.listed.Goals as goal

pub returns-in-Err-clause-refused : goal.returns-in-Err-clause-refused
returns-in-Err-clause-refused c = λ some. image_fault_of _ _ c.in-Err.fault _ c.in-Err.ensures.fault c.of_image.ensures some
