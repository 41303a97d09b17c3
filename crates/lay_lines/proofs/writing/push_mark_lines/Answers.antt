use Rattle.std.proofs.Common.{◌<◌, length, rules}
use Rattle.lay_lines.proofs.MarkLines.{marks_pushed}
use Rattle.lay_lines.proofs.writing.push_mark_lines.Goals as goal

pub loop-rest-preserved : goal.loop-rest-preserved
loop-rest-preserved c =
    let some : 0 < length c.loop-rest.rest.now = search rules in
    marks_pushed c.loop-rest.rest.now c.split_at.result.0.now c.split_at.result.1.now c.loop-rest.text.items c.push_mark_line.new.text.items _ c.min.result some (search rules) c.split_at.ensures.front c.split_at.ensures.back c.in_ok-push_mark_line.ensures c.loop-rest.invariant
