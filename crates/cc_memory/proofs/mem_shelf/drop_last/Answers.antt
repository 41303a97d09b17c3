use Rattle.std.proofs.Common.{arith}
use Rattle.cc_memory.proofs.CallLemmas.{last_dropped}
use Rattle.cc_memory.proofs.mem_shelf.drop_last.Goals as goal

pub returns : goal.returns
returns c = last_dropped _ _ c.pop.result c.pop.ensures.items (λ some. c.pop.ensures.variant.1 (omega (arith, some, c.args.calls.now.ok.0)))
