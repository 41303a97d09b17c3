use Rattle.cc_memory.proofs.CallLemmas.{past_exactly}
use Rattle.cc_memory.proofs.laws.reliable_sinks.Goals as goal

pub returns : goal.returns
returns c = past_exactly c.args.sink.now.fail_at.items c.args.sink.now.calls
