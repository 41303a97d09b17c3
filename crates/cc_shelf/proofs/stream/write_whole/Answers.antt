use Rattle.std.proofs.Common.{◌++◌, take}
use Rattle.cc_shelf.proofs.KnownBytes.{appends_more, more_done}
use Rattle.cc_shelf.proofs.stream.write_whole.Goals as goal

pub loop-preserved : goal.loop-preserved
loop-preserved g c =
    let before = c.loop.invariant in
    let n = c.in-Ok.count in
    let rest = c.loop.rest.now in
    (before.0 ++ take n rest, more_done _ before.0 rest n before.1, appends_more _ _ _ before.0 (take n rest) before.2 c.in-Ok.ensures.bytes)
