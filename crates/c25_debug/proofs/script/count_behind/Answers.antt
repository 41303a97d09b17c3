use Rattle.std.proofs.Common.{rules, ◌≡◌, arith}
use Rattle.c25_debug.proofs.ScriptLines.{number_is}
use Rattle.c25_debug.proofs.script.count_behind.Goals as goal
use Rattle.c25_debug.proofs.script.count_behind.Goals.{then-count-eq0-via-then-count-eq0, then-count-eq0-via-else-count-eq0+then-count-most}

pub returns-then-count-eq0 : goal.returns-then-count-eq0
returns-then-count-eq0 c = λ n within e.
    let same : c.in_ok-count.count ≡ n = number_is c.args.line.now c.args.prefix.now c.in_ok-count.count n (search rules) (search rules) c.in_ok-count.ensures e in
    elim c.then-count-eq0.branch [ then-count-eq0-via-then-count-eq0 w ↦ omega (arith, same, within.0) | then-count-eq0-via-else-count-eq0+then-count-most w ↦ omega (arith, same, within.1) ]
