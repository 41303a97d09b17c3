use Rattle.c_expressions.proofs.WholeWays.{stars_taken, stars_fewer, stars_only}
use Rattle.c_expressions.proofs.parser.Parser.whole_stars.Goals as goal

pub returns-clause-tree : goal.returns-clause-tree
returns-clause-tree c = stars_taken c.stars.ensures

pub returns-clause-only : goal.returns-clause-only
returns-clause-only c = stars_only c.stars.ensures

pub returns-clause-no_more : goal.returns-clause-no_more
returns-clause-no_more c = stars_fewer c.stars.ensures
