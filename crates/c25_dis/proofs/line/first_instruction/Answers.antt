-- Whether all words of the instruction are there.
use Rattle.std.proofs.Common.{◌<◌, ◌≤◌, length, rules, sym, slice_index}
use Rattle.c25_isa.specs.Decode.{decode}
use Rattle.c25_dis.proofs.Lines.{is_whole, is_cut_off}
use Rattle.c25_dis.proofs.line.first_instruction.Goals as goal

pub returns-then-words-from-clause-whole : goal.returns-then-words-from-clause-whole
returns-then-words-from-clause-whole c =
    let short : length c.args.words.now < c.in_ok-instr.length = search rules in
    is_cut_off (length c.args.words.now) (decode (slice_index c.args.words.now 0) (slice_index c.args.words.now 1)) c.in_ok-instr.instr c.in_ok-instr.length
    (sym (rw c.second_word.ensures at c.in_ok-instr.ensures.value)) short

pub returns-clause-whole : goal.returns-clause-whole
returns-clause-whole c =
    let fits : c.in_ok-instr.length ≤ length c.args.words.now = search rules in
    is_whole (length c.args.words.now) (decode (slice_index c.args.words.now 0) (slice_index c.args.words.now 1)) c.in_ok-instr.instr c.in_ok-instr.length
    (sym (rw c.second_word.ensures at c.in_ok-instr.ensures.value)) fits
