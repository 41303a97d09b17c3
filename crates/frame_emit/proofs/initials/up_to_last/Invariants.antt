use Rattle.std.proofs.Common.{◌≡◌, map, length}
use Rattle.frame_emit.specs.Startup.{initial_word, up_to_last}
use Rattle.frame_emit.proofs.initials.up_to_last.Given as goal

abbrev pub invariant-loop-last : goal.invariant-loop-last
invariant-loop-last l = up_to_last (map (initial_word l.statics) l.rest) ≡ up_to_last (map (initial_word l.statics) l.fn.initials)

abbrev pub decreases-loop-last : goal.decreases-loop-last
decreases-loop-last l = length l.rest
