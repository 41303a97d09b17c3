use Rattle.std.proofs.Common.{◌≡◌, ◌+◌, map, length}
use Rattle.c_tree.specs.View.{object_of}
use Rattle.frame_emit.specs.Startup.{static_words}
use Rattle.frame_emit.proofs.startup.words_of.Given as goal

abbrev pub invariant-loop-object : goal.invariant-loop-object
invariant-loop-object l = l.words + static_words (map object_of l.rest) ≡ static_words (map object_of l.fn.objects)

abbrev pub decreases-loop-object : goal.decreases-loop-object
decreases-loop-object l = length l.rest
