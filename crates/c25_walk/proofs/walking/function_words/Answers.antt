use Rattle.std.proofs.Common.{rules}
use Rattle.c25_walk.proofs.Ranges.{walk_found, places_found, count_found}
use Rattle.c25_walk.proofs.walking.function_words.Goals as goal

pub returns-clause-walk : goal.returns-clause-walk
returns-clause-walk c =
    walk_found c.args.image.now c.args.function c.from-first.result c.from-last.result _ c.words-words.result.now c.range_of-range.ensures.range (search rules) (search rules) (search rules)

pub returns-clause-places : goal.returns-clause-places
returns-clause-places c =
    places_found c.args.image.now c.args.function c.from-first.result c.from-last.result _ c.words-words.result.now c.range_of-range.ensures.range (search rules) (search rules) (search rules)

pub returns-clause-count : goal.returns-clause-count
returns-clause-count c =
    count_found c.args.image.now c.args.function c.from-first.result c.from-last.result _ c.words-words.result.now c.range_of-range.ensures.range (search rules) (search rules) (search rules)
