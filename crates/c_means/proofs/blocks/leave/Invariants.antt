use Rattle.std.proofs.Common.{◌≡◌, map, Bor}
use Rattle.std.specs.Prelude.{reverse}
use Rattle.c_tree.specs.Exec as exec
use Rattle.c_tree.specs.Store.{Gives}
use Rattle.c_means.specs.Blocks.{numbers_of}
use Rattle.c_state.specs.Worlds.{world_of}
use Rattle.c_means.specs.declared.blocks.Opened.{Opened}
use Rattle.c_means.proofs.blocks.leave.Given as goal

abbrev pub invariant-loop-one : goal.invariant-loop-one
invariant-loop-one l = exec.leave (numbers_of (reverse (map (λ (b : Bor Opened). b.now) l.yielded))) (world_of l.initial.state) ≡ Gives (tt {0}) (world_of l.state)
