use Rattle.lay_cert.specs.CertReading.{Costed}
use Rattle.lay_cert.proofs.Steps.{claim_read, claim_stuck, no_line_here}
use Rattle.lay_cert.proofs.frames.read_claim.Goals as goal

pub returns-in_default : goal.returns-in_default
returns-in_default c = λ bytes steps fs h blocks bases lists cost start.
    rw c.next_fault-fault.ensures (no_line_here bytes c.args.lines.now steps fs (Costed h blocks bases lists cost) start c.in_default.ensures.1)

pub returns-in_default-read_claim : goal.returns-in_default-read_claim
returns-in_default-read_claim c = λ bytes steps fs h blocks bases lists cost start.
    rw c.next_fault-fault.ensures (claim_stuck bytes c.args.lines.now c.next.new.self c.in-Some.line.now steps fs h blocks bases lists cost start c.in-Some.ensures c.in_default-read_claim.ensures)

pub returns : goal.returns
returns c = λ bytes steps fs h blocks bases lists cost start.
    claim_read bytes c.args.lines.now c.next.new.self c.in-Some.line.now c.in-Some-read_claim.claim steps fs h blocks bases lists cost start c.in-Some.ensures c.in-Some-read_claim.ensures.0 c.in-Some-read_claim.ensures.1
