use Rattle.std.proofs.Common.{◌≡◌, vec_len, replicate, []}
use Rattle.c_state.specs.Inputs.{words_in}
use Rattle.c_state.proofs.inputs.empty.Given as goal

abbrev pub invariant-loop : goal.invariant-loop
invariant-loop l = (vec_len l.queues ≡ l.counter) × (words_in l.queues.items ≡ replicate l.counter [])
