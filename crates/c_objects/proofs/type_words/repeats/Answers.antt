use Rattle.std.proofs.Common.{rules}
use Rattle.c_objects.proofs.TypeWords.{repeats_counted}
use Rattle.c_objects.proofs.type_words.repeats.Goals as goal

pub returns-then-stands_twice-6 : goal.returns-then-stands_twice-6
returns-then-stands_twice-6 c = rw repeats_counted (search rules)

pub returns-else-stands_twice-6 : goal.returns-else-stands_twice-6
returns-else-stands_twice-6 c = rw repeats_counted (search rules)
