use Rattle.std.proofs.Common.{◌∙◌, ap}
use Rattle.cc_text.specs.declared.refusal.Refusal.{Refusal}
use Rattle.cc_text.specs.Refusals.{why_of, refusal_status}
use Rattle.cc_files.proofs.PutLemmas.{line_made}
use Rattle.cc_files.proofs.output.refuse.Goals as goal

pub returns-in-File-clause-put : goal.returns-in-File-clause-put
returns-in-File-clause-put g c =
    let same = c.status-status.ensures ∙ ap (λ (r : Refusal). refusal_status (why_of r)) c.in-File.is in
    rw c.in-File.is (line_made _ _ _ _ _ _ c.file_line.ensures same c.say_made.ensures.put)

pub returns-in-Source-clause-put : goal.returns-in-Source-clause-put
returns-in-Source-clause-put g c =
    let same = c.status-status.ensures ∙ ap (λ (r : Refusal). refusal_status (why_of r)) c.in-Source.is in
    rw c.in-Source.is (line_made _ _ _ _ _ _ c.source_line.ensures same c.say_made-in-Source.ensures.put)

pub returns-in-Macros-clause-put : goal.returns-in-Macros-clause-put
returns-in-Macros-clause-put g c =
    let same = c.status-status.ensures ∙ ap (λ (r : Refusal). refusal_status (why_of r)) c.in-Macros.is in
    rw c.in-Macros.is (line_made _ _ _ _ _ _ c.macro_line.ensures same c.say_made-in-Macros.ensures.put)

pub returns-in-Units-clause-put : goal.returns-in-Units-clause-put
returns-in-Units-clause-put g c =
    let same = c.status-status.ensures ∙ ap (λ (r : Refusal). refusal_status (why_of r)) c.in-Units.is in
    rw c.in-Units.is (line_made _ _ _ _ _ _ c.unit_line.ensures same c.say_made-in-Units.ensures.put)
