use Rattle.std.proofs.Common.{◌≡◌, ◌++◌, drop}
use Rattle.lay_lines.specs.BlockText.{spaced}
use Rattle.lay_lines.proofs.writing.push_spaced.Given as goal

abbrev pub invariant-loop-scalar : goal.invariant-loop-scalar
invariant-loop-scalar l = l.text.items ++ spaced (drop l.scalar-index l.scalars) ≡ l.initial.text.items ++ spaced l.scalars
