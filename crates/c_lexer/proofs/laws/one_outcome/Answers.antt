use Rattle.c_lexer.proofs.OneAnswer.{says_one, lexes_not_says}
use Rattle.c_lexer.proofs.laws.one_outcome.Goals as goal

pub returns-clause-one_fault : goal.returns-clause-one_fault
returns-clause-one_fault c = says_one

pub returns-clause-no_fault : goal.returns-clause-no_fault
returns-clause-no_fault c = lexes_not_says
