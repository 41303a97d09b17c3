use Rattle.std.proofs.Common.{◌≡◌, ◌++◌, map, length, None}
use Rattle.c25_code.specs.Items.{plain_items}
use Rattle.frame_emit.specs.Startup.{initial_word, words_code}
use Rattle.frame_emit.proofs.initials.push_words.Given as goal

abbrev pub invariant-loop-first : goal.invariant-loop-first
invariant-loop-first l =
    l.initial.code ++ plain_items (words_code None (map (initial_word l.statics) l.fn.initials))
    ≡ l.code ++ plain_items (words_code l.held (map (initial_word l.statics) l.rest))

abbrev pub decreases-loop-first : goal.decreases-loop-first
decreases-loop-first l = length l.rest
