-- One line more.
use Rattle.c25_dis.proofs.Lines.{line_pushed}
use Rattle.c25_dis.specs.Listing.{lines_of}
use Rattle.c25_dis.proofs.writing.listing.Goals as goal

pub loop-rest-preserved : goal.loop-rest-preserved
loop-rest-preserved c =
    line_pushed c.loop-rest.text.items c.push_line.new.text.items _ c.split_line-line.result.0 (lines_of c.loop-rest.rest.now) (lines_of c.split_line-line.result.1.now)
    c.split_line-line.ensures.lines c.in_ok-push_line.ensures c.loop-rest.invariant
