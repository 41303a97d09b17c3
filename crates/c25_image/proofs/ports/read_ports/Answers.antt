use Rattle.std.proofs.Common.{inl, ap, rules, ◌≡◌, ◌∙◌, []}
use Rattle.std.proofs.lemmas.List.{nil_from_length}
use Rattle.c25_image.proofs.PortLines.{given_bad, given_blank, given_put, given_same, given_end, bad_same, bad_no_text}
use Rattle.c25_image.specs.declared.fault.PortFault.TheVariants as port_faults
use Rattle.c25_image.proofs.ports.read_ports.Goals as goal
use Rattle.c25_image.proofs.ports.read_ports.Goals.{then-not-is_empty+in-Some+in_ok-push, else-not-is_empty}

pub returns-in_default-clause-fault : goal.returns-in_default-clause-fault
returns-in_default-clause-fault c =
    given_bad c.args.bytes.now c.loop-rest.rest.now c.next_line.result.1.now c.next_line.result.0.now c.loop-rest.number c.loop-rest.puts.items c.loop-rest.invariant c.next_line.ensures.lines (search rules) c.in_default.ensures

pub returns-in_default-clause-written : goal.returns-in_default-clause-written
returns-in_default-clause-written c = λ puts p.
    absurd (bad_no_text c.args.bytes.now c.loop-rest.number (given_bad c.args.bytes.now c.loop-rest.rest.now c.next_line.result.1.now c.next_line.result.0.now c.loop-rest.number c.loop-rest.puts.items c.loop-rest.invariant c.next_line.ensures.lines (search rules) c.in_default.ensures) puts p)

pub loop-rest-preserved : goal.loop-rest-preserved
loop-rest-preserved c =
    elim c.if-not-is_empty.branch [
      | then-not-is_empty+in-Some+in_ok-push w ↦
          given_put c.args.bytes.now c.loop-rest.rest.now c.next_line.result.1.now c.next_line.result.0.now c.loop-rest.number c.loop-rest.puts.items c.if-not-is_empty.puts.items w.in-Some.put c.loop-rest.invariant c.next_line.ensures.lines c.next_line.ensures.shorter w.in-Some.ensures (rw w.puts-is w.in_ok-push.ensures.items)
      | else-not-is_empty w ↦
          let blank : c.next_line.result.0.now ≡ [] = nil_from_length c.next_line.result.0.now (search rules) in
          rw w.puts-is (given_blank c.args.bytes.now c.loop-rest.rest.now c.next_line.result.1.now c.next_line.result.0.now c.loop-rest.number c.loop-rest.puts.items c.loop-rest.invariant c.next_line.ensures.lines c.next_line.ensures.shorter blank)
    ]

pub returns-clause-written : goal.returns-clause-written
returns-clause-written c = λ puts p.
    c.new.ensures ∙ given_same c.args.bytes.now c.loop-rest.rest.now c.loop-rest.number c.loop-rest.puts.items c.loop-rest.invariant (nil_from_length c.loop-rest.rest.now (search rules)) puts p

pub returns-in_default-clause-only : goal.returns-in_default-clause-only
returns-in_default-clause-only c = λ line s.
    inl (ap (λ n. port_faults.BadLine n) (bad_same c.args.bytes.now c.loop-rest.number line (given_bad c.args.bytes.now c.loop-rest.rest.now c.next_line.result.1.now c.next_line.result.0.now c.loop-rest.number c.loop-rest.puts.items c.loop-rest.invariant c.next_line.ensures.lines (search rules) c.in_default.ensures) s))

pub returns-clause-only : goal.returns-clause-only
returns-clause-only c = λ line s.
    bad_no_text c.args.bytes.now line s c.loop-rest.puts.items (given_end c.args.bytes.now c.loop-rest.rest.now c.loop-rest.number c.loop-rest.puts.items c.loop-rest.invariant (nil_from_length c.loop-rest.rest.now (search rules)))
