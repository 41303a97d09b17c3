use Rattle.std.proofs.Common.{rules, ◌≡◌, ◌+◌, ◌<◌, ◌≤◌, length, ap, subst, ◌∙◌}
use Rattle.std.proofs.lemmas.List.{nil_from_length}
use Rattle.text_base.specs.FilledLines.{filled_to, Place, read_to, HasRead, HasReadAll}
use Rattle.text_base.proofs.FilledTexts.{left_more, passed_blank, passed_line, passed_all}
use Rattle.text_base.proofs.filled_lines.FilledLines.next.Goals as goal

pub invariant_of-self-then-not-is_empty : goal.invariant_of-self-then-not-is_empty
invariant_of-self-then-not-is_empty c =
    left_more c.loop-self.self-inside.bytes.now c.loop-self.self-inside.rest.now c.next_line.result.1.now c.next_line.result.0.now c.loop-self.self-inside.number c.loop-self.invariant.passed.left c.next_line.ensures.lines c.next_line.ensures.shorter

pub returns-then-not-is_empty-clause-bytes : goal.returns-then-not-is_empty-clause-bytes
returns-then-not-is_empty-clause-bytes c = c.loop-self.invariant.same ∙ ap (λ (p : Place). p.bytes) c.self.view_is

pub returns-then-not-is_empty-clause-read : goal.returns-then-not-is_empty-clause-read
returns-then-not-is_empty-clause-read c =
    let some : 0 < length c.next_line.result.0.now = search rules in
    let front : filled_to c.self.inside.number c.loop-self.self-inside.bytes.now ≡ read_to c.args.self.now = ap (λ b. filled_to c.self.inside.number b) c.loop-self.invariant.same ∙ ap read_to c.self.view_is in
    let p : Place = record { bytes = c.loop-self.self-inside.bytes.now; number = c.loop-self.self-inside.number + 1 } in
    subst (λ l. HasRead l c.next_line.result.0.now p) front
    (passed_line c.loop-self.self-inside.bytes.now c.loop-self.self-inside.rest.now c.next_line.result.1.now c.next_line.result.0.now c.self.inside.number c.loop-self.self-inside.number c.loop-self.invariant.passed c.next_line.ensures.lines c.next_line.ensures.shorter some)

pub loop-self-preserved : goal.loop-self-preserved
loop-self-preserved c =
    let none : length c.next_line.result.0.now ≤ 0 = search rules in
    record {
      same = c.loop-self.invariant.same;
      passed = passed_blank c.loop-self.self-inside.bytes.now c.loop-self.self-inside.rest.now c.next_line.result.1.now c.next_line.result.0.now c.self.inside.number c.loop-self.self-inside.number c.loop-self.invariant.passed c.next_line.ensures.lines c.next_line.ensures.shorter none;
    }

pub returns-clause-bytes : goal.returns-clause-bytes
returns-clause-bytes c = c.loop-self.invariant.same ∙ ap (λ (p : Place). p.bytes) c.self.view_is

pub returns-clause-read : goal.returns-clause-read
returns-clause-read c =
    let none : length c.loop-self.self-inside.rest.now ≤ 0 = search rules in
    let front : filled_to c.self.inside.number c.loop-self.self-inside.bytes.now ≡ read_to c.args.self.now = ap (λ b. filled_to c.self.inside.number b) c.loop-self.invariant.same ∙ ap read_to c.self.view_is in
    let p : Place = record { bytes = c.loop-self.self-inside.bytes.now; number = c.loop-self.self-inside.number } in
    subst (λ l. HasReadAll l p) front
    (passed_all c.loop-self.self-inside.bytes.now c.loop-self.self-inside.rest.now c.self.inside.number c.loop-self.self-inside.number c.loop-self.invariant.passed (nil_from_length c.loop-self.self-inside.rest.now (search rules)))
