use Rattle.std.proofs.Common.{◌≡◌}
use Rattle.lay_profile.specs.Weighing.{weighed_blocks}
use Rattle.lay_profile.proofs.Weighings.{weighed_from}
use Rattle.lay_profile.proofs.weighing.weigh_blocks.Given as goal

abbrev pub invariant-loop-index : goal.invariant-loop-index
invariant-loop-index l = weighed_from l.weighed l.blocks l.counts l.index ≡ weighed_blocks l.blocks l.counts
