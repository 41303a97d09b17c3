use Rattle.lay_tree.proofs.AnswerLists.{answer_arranged}
use Rattle.lay_tree.proofs.StartLists.{start_arranged}
use Rattle.lay_tree.proofs.laws.answers_arrange.Goals as goal

pub returns-clause-answer : goal.returns-clause-answer
returns-clause-answer c = answer_arranged

pub returns-clause-start : goal.returns-clause-start
returns-clause-start c = start_arranged
