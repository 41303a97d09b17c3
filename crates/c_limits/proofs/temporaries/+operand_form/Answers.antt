use Rattle.c_limits.proofs.TemporariesLemmas.{computed}
use Rattle.c_limits.proofs.temporaries.+operand_form.Goals as goal

pub returns-in_default-clause-constant : goal.returns-in_default-clause-constant
returns-in_default-clause-constant t c =
    (computed c.args.e.now.form c.args.e.now.kind c.args.e.now.at c.in_default.not-Const c.in_default.not-AddressOf c.in_default.not-Read c.in_default.not-Convert c.in_default.not-Unary).0

pub returns-in_default-clause-simple : goal.returns-in_default-clause-simple
returns-in_default-clause-simple t c =
    (computed c.args.e.now.form c.args.e.now.kind c.args.e.now.at c.in_default.not-Const c.in_default.not-AddressOf c.in_default.not-Read c.in_default.not-Convert c.in_default.not-Unary).1
