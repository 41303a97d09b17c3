use Rattle.std.proofs.Common.{◌≡◌, drop}
use Rattle.c_tree.specs.Exec.{enter}
use Rattle.c_means.specs.Blocks.{numbers_of, put_back}
use Rattle.c_means.specs.Frames.{env_in}
use Rattle.c_state.specs.Worlds.{world_of}
use Rattle.c_means.proofs.BlockLemmas.{numbered}
use Rattle.c_means.proofs.blocks.enter.Given as goal

abbrev pub invariant-loop-reference : goal.invariant-loop-reference
invariant-loop-reference l = record {
  entered : numbered (numbers_of l.opened.items) (enter (drop l.reference-index l.declared) (env_in l.run l.names) (world_of l.state)) ≡ enter l.declared (env_in l.run l.initial.names) (world_of l.initial.state);
  back : put_back (env_in l.run l.names) l.opened.items ≡ env_in l.run l.initial.names;
}
