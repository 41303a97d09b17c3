use Rattle.cc_driver.specs.Run.{BadImage, BadPorts}
use Rattle.cc_driver.proofs.WorkLemmas.{image_fault_of, port_fault_of}
use Rattle.cc_driver.proofs.run.run.Goals as goal

pub returns-in-Err-clause-refused : goal.returns-in-Err-clause-refused
returns-in-Err-clause-refused c = λ some.
    let says = rw c.deref.ensures.value at c.in-Err.ensures.fault in
    BadImage (image_fault_of _ _ c.in-Err.fault _ says c.of_image.ensures some)

pub returns-in-Err-read_ports-clause-refused : goal.returns-in-Err-read_ports-clause-refused
returns-in-Err-read_ports-clause-refused c = λ some.
    let text = rw c.deref.ensures.value at c.in-Ok.ensures.text in
    let says = rw c.deref-2.ensures.value at c.in-Err-read_ports.ensures.fault in
    BadPorts c.in-Ok.image (record { whole = c.in-Ok.ensures.whole; text = text }) (port_fault_of _ _ c.in-Err-read_ports.fault _ says c.of_ports.ensures some)
