use Rattle.std.proofs.Common.{rules, ◌≡◌, ◌≢◌, ◌+◌, length, false, inl, inr}
use Rattle.std.specs.Prelude.{◌⊎◌}
use Rattle.c25_image.specs.ImageReading.{IsRowOf}
use Rattle.c25_image.proofs.ImageLoops.{stuck_at_line, not_row}
use Rattle.c25_image.proofs.reading.next_row.Goals as goal
use Rattle.c25_image.proofs.reading.next_row.Goals.{else-branch-via-then-branch+else-len-end, else-branch-via-else-branch}

pub returns-else-branch : goal.returns-else-branch
returns-else-branch c =
    let which : (c.in_ok-read_row.field-0 ≡ false) ⊎ (length c.read_row.new.words.items ≢ length c.args.words.now.items + c.args.count) =
    elim c.else-branch.branch [ else-branch-via-then-branch+else-len-end w ↦ inr (search rules) | else-branch-via-else-branch w ↦ inl (search rules) ]
    in
    stuck_at_line (IsRowOf c.args.count) c.args.bytes.now c.in-Some.line.now c.in-Some.rest.now c.in-Some.ensures.0 c.in-Some.ensures.1
    (not_row c.args.count c.in-Some.line.now c.args.words.now.items c.read_row.new.words.items c.in_ok-read_row.field-0 c.in_ok-read_row.ensures which)
