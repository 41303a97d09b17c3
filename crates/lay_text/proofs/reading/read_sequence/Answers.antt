use Rattle.std.proofs.Common.{◌≡◌, ◌∙◌, ap, subst}
use Rattle.std.proofs.lemmas.Result.{err_from_is_err_and}
use Rattle.lay_text.specs.SequenceReading.{Reads, Says}
use Rattle.text_base.specs.FilledLines.{Place}
use Rattle.lay_text.specs.declared.fault.SeqFault.TheVariants as faults
use Rattle.lay_text.proofs.SequenceLines.{sequence_of}
use Rattle.lay_text.proofs.Exact.{says_not_read, says_same, sequences_same, trailing, reads_all}
use Rattle.lay_text.proofs.reading.read_sequence.Goals as goal

pub returns-in_err-head-clause-written : goal.returns-in_err-head-clause-written
returns-in_err-head-clause-written c = λ s r.
    let p = err_from_is_err_and c.from_residual.result c.from_residual.ensures.1 in
    let same : c.read_head.new.lines.bytes ≡ c.args.bytes.now = c.in_err-head.ensures.bytes ∙ ap (λ (place : Place). place.bytes) c.new-lines.ensures in
    rw (p.1, p.2) (says_not_read c.args.bytes.now s r c.in_err-head.field-0.0 (subst (λ b. Says b c.in_err-head.field-0.0) same c.in_err-head.ensures.read))

pub returns-in_err-head-clause-only : goal.returns-in_err-head-clause-only
returns-in_err-head-clause-only c = λ fault some says.
    let p = err_from_is_err_and c.from_residual.result c.from_residual.ensures.1 in
    let same : c.read_head.new.lines.bytes ≡ c.args.bytes.now = c.in_err-head.ensures.bytes ∙ ap (λ (place : Place). place.bytes) c.new-lines.ensures in
    rw (p.1, p.2) (says_same c.args.bytes.now fault c.in_err-head.field-0.0 some says (subst (λ b. Says b c.in_err-head.field-0.0) same c.in_err-head.ensures.read))

pub returns-in_err-blocks-clause-written : goal.returns-in_err-blocks-clause-written
returns-in_err-blocks-clause-written c = λ s r.
    let p = err_from_is_err_and c.from_residual-in_err-blocks.result c.from_residual-in_err-blocks.ensures.1 in
    let same : c.read_blocks.new.lines.bytes ≡ c.args.bytes.now = c.in_err-blocks.ensures.bytes ∙ c.in_ok-head.ensures.bytes ∙ ap (λ (place : Place). place.bytes) c.new-lines.ensures in
    rw (p.1, p.2) (says_not_read c.args.bytes.now s r c.in_err-blocks.field-0.0 (subst (λ b. Says b c.in_err-blocks.field-0.0) same c.in_err-blocks.ensures.read))

pub returns-in_err-blocks-clause-only : goal.returns-in_err-blocks-clause-only
returns-in_err-blocks-clause-only c = λ fault some says.
    let p = err_from_is_err_and c.from_residual-in_err-blocks.result c.from_residual-in_err-blocks.ensures.1 in
    let same : c.read_blocks.new.lines.bytes ≡ c.args.bytes.now = c.in_err-blocks.ensures.bytes ∙ c.in_ok-head.ensures.bytes ∙ ap (λ (place : Place). place.bytes) c.new-lines.ensures in
    rw (p.1, p.2) (says_same c.args.bytes.now fault c.in_err-blocks.field-0.0 some says (subst (λ b. Says b c.in_err-blocks.field-0.0) same c.in_err-blocks.ensures.read))

pub returns-in-Some-clause-written : goal.returns-in-Some-clause-written
returns-in-Some-clause-written c = λ s r.
    let same : c.next.new.self.bytes ≡ c.args.bytes.now = c.in-Some.ensures.bytes ∙ c.in_ok-blocks.ensures.bytes ∙ c.in_ok-head.ensures.bytes ∙ ap (λ (place : Place). place.bytes) c.new-lines.ensures in
    let fault = subst (λ b. Says b (faults.BadLine c.next.new.self.number)) same (trailing c.read_blocks.new.lines c.next.new.self (sequence_of c.in_ok-head.head.scalars c.in_ok-head.head.step c.in_ok-blocks.blocks) c.in-Some.field-0.now c.in_ok-blocks.ensures.read c.in-Some.ensures.read) in
    c.last_fault.ensures ∙ says_not_read c.args.bytes.now s r (faults.BadLine c.next.new.self.number) fault

pub returns-in-Some-clause-fault : goal.returns-in-Some-clause-fault
returns-in-Some-clause-fault c =
    let same : c.next.new.self.bytes ≡ c.args.bytes.now = c.in-Some.ensures.bytes ∙ c.in_ok-blocks.ensures.bytes ∙ c.in_ok-head.ensures.bytes ∙ ap (λ (place : Place). place.bytes) c.new-lines.ensures in
    rw c.last_fault.ensures (subst (λ b. Says b (faults.BadLine c.next.new.self.number)) same (trailing c.read_blocks.new.lines c.next.new.self (sequence_of c.in_ok-head.head.scalars c.in_ok-head.head.step c.in_ok-blocks.blocks) c.in-Some.field-0.now c.in_ok-blocks.ensures.read c.in-Some.ensures.read))

pub returns-in-Some-clause-only : goal.returns-in-Some-clause-only
returns-in-Some-clause-only c = λ fault some says.
    let same : c.next.new.self.bytes ≡ c.args.bytes.now = c.in-Some.ensures.bytes ∙ c.in_ok-blocks.ensures.bytes ∙ c.in_ok-head.ensures.bytes ∙ ap (λ (place : Place). place.bytes) c.new-lines.ensures in
    rw c.last_fault.ensures (says_same c.args.bytes.now fault (faults.BadLine c.next.new.self.number) some says (subst (λ b. Says b (faults.BadLine c.next.new.self.number)) same (trailing c.read_blocks.new.lines c.next.new.self (sequence_of c.in_ok-head.head.scalars c.in_ok-head.head.step c.in_ok-blocks.blocks) c.in-Some.field-0.now c.in_ok-blocks.ensures.read c.in-Some.ensures.read)))

pub returns-in-None-clause-reads : goal.returns-in-None-clause-reads
returns-in-None-clause-reads c =
    let same : c.next.new.self.bytes ≡ c.args.bytes.now = c.in-None.ensures.bytes ∙ c.in_ok-blocks.ensures.bytes ∙ c.in_ok-head.ensures.bytes ∙ ap (λ (place : Place). place.bytes) c.new-lines.ensures in
    rw c.new.ensures (subst (λ b. Reads b (sequence_of c.in_ok-head.head.scalars c.in_ok-head.head.step c.in_ok-blocks.blocks)) same (reads_all c.read_blocks.new.lines c.next.new.self (sequence_of c.in_ok-head.head.scalars c.in_ok-head.head.step c.in_ok-blocks.blocks) c.in_ok-blocks.ensures.read c.in-None.ensures.read))

pub returns-in-None-clause-written : goal.returns-in-None-clause-written
returns-in-None-clause-written c = λ s r.
    let same : c.next.new.self.bytes ≡ c.args.bytes.now = c.in-None.ensures.bytes ∙ c.in_ok-blocks.ensures.bytes ∙ c.in_ok-head.ensures.bytes ∙ ap (λ (place : Place). place.bytes) c.new-lines.ensures in
    let found = sequence_of c.in_ok-head.head.scalars c.in_ok-head.head.step c.in_ok-blocks.blocks in
    c.new.ensures ∙ sequences_same found s _ (subst (λ b. Reads b found) same (reads_all c.read_blocks.new.lines c.next.new.self found c.in_ok-blocks.ensures.read c.in-None.ensures.read)) r

pub returns-in-None-clause-only : goal.returns-in-None-clause-only
returns-in-None-clause-only c = λ fault some says.
    let same : c.next.new.self.bytes ≡ c.args.bytes.now = c.in-None.ensures.bytes ∙ c.in_ok-blocks.ensures.bytes ∙ c.in_ok-head.ensures.bytes ∙ ap (λ (place : Place). place.bytes) c.new-lines.ensures in
    let found = sequence_of c.in_ok-head.head.scalars c.in_ok-head.head.step c.in_ok-blocks.blocks in
    some (says_not_read c.args.bytes.now found (subst (λ b. Reads b found) same (reads_all c.read_blocks.new.lines c.next.new.self found c.in_ok-blocks.ensures.read c.in-None.ensures.read)) fault says)
