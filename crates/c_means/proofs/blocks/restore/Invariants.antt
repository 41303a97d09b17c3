use Rattle.std.proofs.Common.{◌≡◌, map, Bor}
use Rattle.std.specs.Prelude.{reverse}
use Rattle.c_means.specs.Blocks.{put_back}
use Rattle.c_means.specs.Frames.{env_in}
use Rattle.c_means.specs.declared.blocks.Opened.{Opened}
use Rattle.c_means.proofs.blocks.restore.Given as goal

abbrev pub invariant-loop-one : goal.invariant-loop-one
invariant-loop-one l = env_in l.run l.names ≡ put_back (env_in l.run l.initial.names) (reverse (map (λ (b : Bor Opened). b.now) l.yielded))
