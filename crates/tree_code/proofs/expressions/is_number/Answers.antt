use Rattle.tree_code.proofs.LoweredLemmas.{no_number}
use Rattle.tree_code.proofs.expressions.is_number.Goals as goal

pub returns-in_default : goal.returns-in_default
returns-in_default c = no_number c.args.form.now c.in_default.not-Const
