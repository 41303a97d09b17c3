use Rattle.std.proofs.Common.{take}
use Rattle.c_limits.specs.Frames.{Marks}
use Rattle.c_limits.proofs.frames.pointed_by.Given as goal

abbrev pub invariant-loop-found : goal.invariant-loop-found
invariant-loop-found l = Marks (take l.found-index l.uses) l.count l.marks.items
