use Rattle.tree_code.proofs.LoweredLemmas.{no_conversion}
use Rattle.tree_code.proofs.expressions.is_conversion.Goals as goal

pub returns-in_default : goal.returns-in_default
returns-in_default c = no_conversion c.args.form.now c.in_default.not-Convert
