use Rattle.std.proofs.Common.{arith}
use Rattle.cc_memory.proofs.HeldLemmas.{held_more, first_at}
use Rattle.cc_memory.proofs.mem_shelf.place_of.Goals as goal

pub returns-then-eq : goal.returns-then-eq
returns-then-eq c = first_at _ _ c.index-files-i.result _ (omega arith) c.index-files-i.is c.loop-i.invariant (cc)

pub loop-i-preserved : goal.loop-i-preserved
loop-i-preserved c = held_more c.args.files.now c.loop-i.i c.index-files-i.result c.args.name.now (omega arith) c.index-files-i.is c.loop-i.invariant (cc)
