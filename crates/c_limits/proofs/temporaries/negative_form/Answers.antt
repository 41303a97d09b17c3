use Rattle.c_limits.proofs.TemporariesLemmas.{negative}
use Rattle.c_limits.proofs.temporaries.negative_form.Goals as goal

pub returns-in_default-clause-constant : goal.returns-in_default-clause-constant
returns-in_default-clause-constant c = λ kind at. (negative c.args.e.now.form c.args.e.now.kind c.args.e.now.at kind at c.in_default.not-Const).0

pub returns-in_default-clause-simple : goal.returns-in_default-clause-simple
returns-in_default-clause-simple c = λ kind at. (negative c.args.e.now.form c.args.e.now.kind c.args.e.now.at kind at c.in_default.not-Const).1
