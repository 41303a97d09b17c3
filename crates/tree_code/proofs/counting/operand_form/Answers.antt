use Rattle.tree_code.proofs.CountingLemmas.{computed}
use Rattle.tree_code.proofs.counting.operand_form.Goals as goal

pub returns-in_default-clause-constant : goal.returns-in_default-clause-constant
returns-in_default-clause-constant c =
    (computed c.args.e.now.form c.args.e.now.at c.in_default.not-Const c.in_default.not-AddressOf c.in_default.not-Read c.in_default.not-Unary).0

pub returns-in_default-clause-simple : goal.returns-in_default-clause-simple
returns-in_default-clause-simple c =
    (computed c.args.e.now.form c.args.e.now.at c.in_default.not-Const c.in_default.not-AddressOf c.in_default.not-Read c.in_default.not-Unary).1
