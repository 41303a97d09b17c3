use Rattle.std.proofs.Common.{◌≡◌, ℕ, ◌<◌, [], get_or, vec_len}
use Rattle.word_base.specs.Ports.{input_of}
use Rattle.c25_sim.proofs.run.split.Given as goal

abbrev pub invariant-loop-port : goal.invariant-loop-port
invariant-loop-port l = (vec_len l.inputs ≡ l.port) × ((p : ℕ) → p < l.port → get_or l.inputs.items p [] ≡ input_of l.lines p)
