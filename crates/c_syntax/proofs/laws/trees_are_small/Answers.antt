use Rattle.c_syntax.proofs.Weights.Statements.{within_limits}
use Rattle.c_syntax.proofs.laws.trees_are_small.Goals as goal

pub returns : goal.returns
returns c = within_limits
