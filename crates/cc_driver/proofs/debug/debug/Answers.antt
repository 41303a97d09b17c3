use Rattle.cc_driver.specs.Debug.{BadImage, BadPorts, BadScript}
use Rattle.cc_driver.proofs.WorkLemmas.{image_fault_of, port_fault_of, script_fault_of}
use Rattle.cc_driver.proofs.debug.debug.Goals as goal

pub returns-in-Err-clause-refused : goal.returns-in-Err-clause-refused
returns-in-Err-clause-refused c = λ some.
    let says = rw c.deref.ensures.value at c.in-Err.ensures.fault in
    BadImage (image_fault_of _ _ c.in-Err.fault _ says c.of_image.ensures some)

pub returns-in-Err-read_ports-clause-refused : goal.returns-in-Err-read_ports-clause-refused
returns-in-Err-read_ports-clause-refused c = λ some.
    let text = rw c.deref.ensures.value at c.in-Ok.ensures.text in
    let says = rw c.deref-2.ensures.value at c.in-Err-read_ports.ensures.fault in
    BadPorts c.in-Ok.image (record { whole = c.in-Ok.ensures.whole; text = text }) (port_fault_of _ _ c.in-Err-read_ports.fault _ says c.of_ports.ensures some)

pub returns-in-Err-read_script-clause-refused : goal.returns-in-Err-read_script-clause-refused
returns-in-Err-read_script-clause-refused c = λ some.
    let text = rw c.deref.ensures.value at c.in-Ok.ensures.text in
    let lines = rw c.deref-2.ensures.value at c.in-Ok-read_ports.ensures.text in
    let says = rw c.deref-3.ensures.value at c.in-Err-read_script.ensures.fault in
    BadScript c.in-Ok.image c.in-Ok-read_ports.ports (record { whole = c.in-Ok.ensures.whole; text = text }) lines
    (script_fault_of _ _ c.in-Err-read_script.fault _ says c.of_script.ensures some)
