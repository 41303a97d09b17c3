use Rattle.std.proofs.Common.{◌≡◌, ◌+◌, drop}
use Rattle.c_rules.specs.Programs.{frame_scalars}
use Rattle.c_limits.proofs.whole.scalars_among.Given as goal

abbrev pub invariant-loop-reference : goal.invariant-loop-reference
invariant-loop-reference l = l.count + frame_scalars (drop l.reference-index l.references) ≡ frame_scalars l.references
