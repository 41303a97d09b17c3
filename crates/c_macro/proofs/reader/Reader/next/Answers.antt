use Rattle.std.proofs.Common.{◌-◌, length}
use Rattle.c_macro.proofs.ReadingLemmas.{next_reads, is_flawed, placed_back}
use Rattle.c_macro.proofs.reader.Reader.next.Goals as goal

pub returns-in-Ok-clause-reads : goal.returns-in-Ok-clause-reads
returns-in-Ok-clause-reads c =
    let r = c.skip_blanks.new.self.rest.now in
    let old = c.args.self.now in (
      c.skip_blanks.ensures.reads.0,
      next_reads old.end (c.skip_blanks.new.self.end - length r) old.rest.now r c.in-Ok.found.kind c.in-Ok.found.size (length c.split_at.result.0.now) c.split_at.result.1.now
          c.skip_blanks.ensures.reads.1 c.in-Ok.ensures.token
          (placed_back c.skip_blanks.new.self.end old.end r old.rest.now c.skip_blanks.ensures.reads.0 c.skip_blanks.ensures.shorter c.requires.placed)
          c.split_at.ensures.back c.split_at.ensures.front_len,
    )

pub returns-in-Err-clause-flawed : goal.returns-in-Err-clause-flawed
returns-in-Err-clause-flawed c =
    let r = c.skip_blanks.new.self.rest.now in
    let old = c.args.self.now in
    is_flawed old (c.skip_blanks.new.self.end - length r) r c.in-Err.flaw c.fault_at.result c.skip_blanks.ensures.reads.1 c.in-Err.ensures.flaw
    (placed_back c.skip_blanks.new.self.end old.end r old.rest.now c.skip_blanks.ensures.reads.0 c.skip_blanks.ensures.shorter c.requires.placed)
    c.fault_at.ensures
