use Rattle.std.proofs.Common.{rules, ◌≡◌, ◌≢◌, ◌≤◌, ◌∙◌, [], length, sym, arith}
use Rattle.std.proofs.lemmas.List.{nil_from_length}
use Rattle.lay_cert.proofs.FrameEnds.{frames_read, behind_last}
use Rattle.lay_cert.proofs.reader.read_end.Goals as goal

pub returns-then-is_empty : goal.returns-then-is_empty
returns-then-is_empty c = λ bytes fs end.
    let empty : length c.rest.result.now ≤ 0 = search rules in
    let zero : length c.rest.result.now ≡ 0 = omega arith in
    let none : c.args.lines.now.text ≡ [] = sym c.rest.ensures.text ∙ nil_from_length c.rest.result.now zero in
    frames_read bytes c.args.lines.now fs end none

pub returns-else-is_empty : goal.returns-else-is_empty
returns-else-is_empty c = λ bytes fs end.
    let some : c.args.lines.now.text ≢ [] = search rules in
    rw c.next_fault.ensures (behind_last bytes c.args.lines.now fs end some)
