-- The instruction, and the words behind it.
use Rattle.std.proofs.Common.{◌≡◌, ◌<◌, length, slice_index, rules, Some}
use Rattle.c25_isa.specs.Decode.{decode}
use Rattle.c25_dis.specs.Listing.{whole}
use Rattle.c25_dis.proofs.Lines.{of_instruction}
use Rattle.c25_dis.proofs.line.split_line.Goals as goal

pub returns-in-Some-clause-lines : goal.returns-in-Some-clause-lines
returns-in-Some-clause-lines c =
    let some : 0 < length c.args.words.now = search rules in
    let long : 0 < c.from.result = search rules in
    let there : whole (length c.args.words.now) (decode (slice_index c.args.words.now 0) (slice_index c.args.words.now 1)) ≡ Some (c.in-Some.instr, c.from.result) = search rules in
    of_instruction c.args.words.now c.in-Some.instr c.from.result some long there
