use Rattle.std.proofs.Common.{◌≡◌, take, None}
use Rattle.cc_memory.specs.Held.{held}
use Rattle.cc_memory.proofs.mem_shelf.place_of.Given as goal

abbrev pub invariant-loop-i : goal.invariant-loop-i
invariant-loop-i l = held (take l.i l.files) l.name ≡ None
