use Rattle.std.proofs.Common.{rules, ◌≡◌, ◌≢◌}
use Rattle.lay_cert.specs.CertText.{last_line}
use Rattle.lay_cert.specs.CertReading.{Between}
use Rattle.lay_cert.proofs.Steps.{named, finished, no_line_here, no_frame_here}
use Rattle.lay_cert.proofs.reader.read_frame_line.Goals as goal

pub returns-in_default-clause-read : goal.returns-in_default-clause-read
returns-in_default-clause-read c = λ bytes steps fs start.
    rw c.next_fault-fault.ensures (no_line_here bytes c.args.lines.now steps fs Between start c.in_default.ensures.1)

pub returns-then-eq-clause-read : goal.returns-then-eq-clause-read
returns-then-eq-clause-read c = λ bytes steps fs start.
    let last : c.in-Some.line.now ≡ last_line = search rules in
    finished bytes c.args.lines.now c.next.new.self c.in-Some.line.now steps fs start c.in-Some.ensures last

pub returns-in_default-read_name-clause-read : goal.returns-in_default-read_name-clause-read
returns-in_default-read_name-clause-read c = λ bytes steps fs start.
    let other : c.in-Some.line.now ≢ last_line = search rules in
    rw c.next_fault-fault.ensures (no_frame_here bytes c.args.lines.now c.next.new.self c.in-Some.line.now steps fs start c.in-Some.ensures other c.in_default-read_name.ensures)

pub returns-clause-read : goal.returns-clause-read
returns-clause-read c = λ bytes steps fs start.
    named bytes c.args.lines.now c.next.new.self c.in-Some.line.now c.in-Some-read_name.name.now steps fs start c.in-Some.ensures c.in-Some-read_name.ensures.0 c.in-Some-read_name.ensures.1
