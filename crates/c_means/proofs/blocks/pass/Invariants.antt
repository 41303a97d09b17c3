use Rattle.std.proofs.Common.{◌≡◌, length, drop, map}
use Rattle.c_tree.specs.SourceRun.{pass}
use Rattle.c_means.specs.Frames.{env_in}
use Rattle.c_state.specs.Values.{value_of}
use Rattle.c_state.specs.Worlds.{world_of}
use Rattle.c_means.proofs.blocks.pass.Given as goal

abbrev pub invariant-loop-parameter : goal.invariant-loop-parameter
invariant-loop-parameter l =
    pass (drop (length l.yielded) l.parameters) (map value_of (drop (length l.yielded) l.arguments)) (env_in l.run l.names) (world_of l.state)
    ≡ pass l.parameters (map value_of l.arguments) (env_in l.run l.names) (world_of l.initial.state)
