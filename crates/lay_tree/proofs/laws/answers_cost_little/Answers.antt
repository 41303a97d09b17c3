use Rattle.lay_tree.proofs.AnswerLemmas.{says_cost, at_most_start, at_most_rising}
use Rattle.lay_tree.proofs.laws.answers_cost_little.Goals as goal

pub returns-clause-says : goal.returns-clause-says
returns-clause-says c = says_cost

pub returns-clause-start : goal.returns-clause-start
returns-clause-start c = at_most_start

pub returns-clause-rising : goal.returns-clause-rising
returns-clause-rising c = at_most_rising
