use Rattle.std.proofs.Common.{ap, arith}
use Rattle.std.proofs.lemmas.Result.{IfOk-weaker}
use Rattle.c_tree.specs.View as typed
use Rattle.tree_code.specs.WordTemporaries.{word_statement_temporaries}
use Rattle.tree_code.proofs.KeptLemmas.{statement_kept}
use Rattle.tree_code.proofs.lowering.function.Goals as goal

pub with_body-requires : goal.with_body-requires
with_body-requires c =
    omega (arith, c.requires, ap word_statement_temporaries c.in_ok-body.ensures.tree, statement_kept (typed.stmt_of c.args.f.now.body))

pub returns-clause-words : goal.returns-clause-words
returns-clause-words c = IfOk-weaker c.with_body.result _ _ (λ _ l. record { locals = l; body = c.in_ok-body.ensures.words }) c.with_body.ensures.words
