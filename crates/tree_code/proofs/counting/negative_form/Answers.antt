use Rattle.tree_code.proofs.CountingLemmas.{negative}
use Rattle.tree_code.proofs.counting.negative_form.Goals as goal

pub returns-in_default-clause-constant : goal.returns-in_default-clause-constant
returns-in_default-clause-constant c = λ at. (negative c.args.e.now.form c.args.e.now.at at c.in_default.not-Const).0

pub returns-in_default-clause-simple : goal.returns-in_default-clause-simple
returns-in_default-clause-simple c = λ at. (negative c.args.e.now.form c.args.e.now.at at c.in_default.not-Const).1
