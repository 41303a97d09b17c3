-- The lines so far.
use Rattle.std.proofs.Common.{◌≡◌, ◌++◌}
use Rattle.cc_gen.specs.Generated.{call_line, lines_below}
use Rattle.cc_gen.proofs.program.push_calls.Given as goal

abbrev pub invariant-loop-index : goal.invariant-loop-index
invariant-loop-index l = l.text.items ≡ l.fn.text.items ++ lines_below call_line l.index
