use Rattle.cc_memory.proofs.CallLemmas.{past_exactly}
use Rattle.cc_memory.proofs.laws.reliable_shelves.Goals as goal

pub returns : goal.returns
returns c = past_exactly c.args.shelf.now.fail_at.items c.args.shelf.now.calls
