use Rattle.std.proofs.Common.{◌≡◌, ◌+◌, max, refl, arith, rules}
use Rattle.std.specs.Prelude.{min}
use Rattle.c_tree.specs.View.{expr_of, argument_list}
use Rattle.c_tree.specs.Temporaries.{temporaries, argument_temporaries}
use Rattle.c_limits.proofs.TemporariesLemmas.{argument_more, of_binary, of_call, of_shape, held}
use Rattle.c_tree.proofs.Folds.{step_further}
use Rattle.c_limits.proofs.temporaries.+expressions.Goals as goal

pub arguments-loop-e-preserved : goal.arguments-loop-e-preserved
arguments-loop-e-preserved t c =
    let here : c.saturating_add.result ≡ min (c.loop-e.kept + c.expression.result) 4294967295 = search rules
    in let next : c.saturating_add-kept.result ≡ min (c.loop-e.kept + 1) 4294967295 = search rules
    in let further = step_further (λ es. argument_temporaries (argument_list es)) (λ kept most e. max most (kept + temporaries (expr_of e))) argument_more
    c.args.list.now c.loop-e.e-index c.e-item.result c.e-item.is c.loop-e-test.true refl
    in record {
      kept = omega (arith, next, c.loop-e.invariant.kept);
      most = omega (arith, c.max-most.ensures, here, c.expression.ensures, c.loop-e.invariant.most, c.loop-e.invariant.kept, further);
    }

pub expression-returns-in-Call : goal.expression-returns-in-Call
expression-returns-in-Call t c = of_call c.arguments.result c.args.e.now.form c.in-Call.function c.in-Call.args c.in-Call.is c.deref-in-Call.ensures.value c.arguments.ensures

pub expression-returns-in-Load : goal.expression-returns-in-Load
expression-returns-in-Load t c =
    of_shape c.expression.result c.in-Load.is (held c.expression.result c.deref.ensures c.expression.ensures)

pub expression-returns-in-Not : goal.expression-returns-in-Not
expression-returns-in-Not t c =
    of_shape c.expression-in-Not.result c.in-Not.is (held c.expression-in-Not.result c.deref-in-Not.ensures c.expression-in-Not.ensures)

pub expression-returns-in-Convert : goal.expression-returns-in-Convert
expression-returns-in-Convert t c =
    of_shape c.expression-in-Convert.result c.in-Convert.is (held c.expression-in-Convert.result c.deref-in-Convert.ensures c.expression-in-Convert.ensures)

pub expression-returns-in-Unary : goal.expression-returns-in-Unary
expression-returns-in-Unary t c =
    of_shape c.expression-in-Unary.result c.in-Unary.is (held c.expression-in-Unary.result c.deref-in-Unary.ensures c.expression-in-Unary.ensures)

pub expression-returns-in-Out : goal.expression-returns-in-Out
expression-returns-in-Out t c =
    of_shape c.expression-in-Out.result c.in-Out.is (held c.expression-in-Out.result c.deref-in-Out.ensures c.expression-in-Out.ensures)

pub expression-returns-in-And : goal.expression-returns-in-And
expression-returns-in-And t c =
    of_shape c.larger.result c.in-And.is
    (c.larger.ensures (temporaries (expr_of c.in-And.left.value)) (temporaries (expr_of c.in-And.right.value)) (held c.expression-in-And.result c.deref-in-And.ensures c.expression-in-And.ensures) (held c.expression-in-And-2.result c.deref-in-And-2.ensures c.expression-in-And-2.ensures))

pub expression-returns-in-Or : goal.expression-returns-in-Or
expression-returns-in-Or t c =
    of_shape c.larger-in-Or.result c.in-Or.is
    (c.larger-in-Or.ensures (temporaries (expr_of c.in-Or.left.value)) (temporaries (expr_of c.in-Or.right.value)) (held c.expression-in-Or.result c.deref-in-Or.ensures c.expression-in-Or.ensures) (held c.expression-in-Or-2.result c.deref-in-Or-2.ensures c.expression-in-Or-2.ensures))

pub expression-returns-in-Comma : goal.expression-returns-in-Comma
expression-returns-in-Comma t c =
    of_shape c.larger-in-Comma.result c.in-Comma.is
    (c.larger-in-Comma.ensures (temporaries (expr_of c.in-Comma.left.value)) (temporaries (expr_of c.in-Comma.right.value)) (held c.expression-in-Comma.result c.deref-in-Comma.ensures c.expression-in-Comma.ensures) (held c.expression-in-Comma-2.result c.deref-in-Comma-2.ensures c.expression-in-Comma-2.ensures))

pub expression-returns-in-Binary : goal.expression-returns-in-Binary
expression-returns-in-Binary t c =
    of_binary c.binary.result c.args.e.now.form c.in-Binary.op c.in-Binary.left c.in-Binary.right c.in-Binary.is c.deref-in-Binary.ensures c.deref-in-Binary-3.ensures
    (c.binary.ensures c.in-Binary.op)

pub expression-returns-in-Pick : goal.expression-returns-in-Pick
expression-returns-in-Pick t c =
    of_shape c.larger-in-Pick-2.result c.in-Pick.is
    (c.larger-in-Pick-2.ensures (temporaries (expr_of c.in-Pick.test.value)) (max (temporaries (expr_of c.in-Pick.yes.value)) (temporaries (expr_of c.in-Pick.no.value))) (held c.expression-in-Pick.result c.deref-in-Pick.ensures c.expression-in-Pick.ensures)
    (c.larger-in-Pick.ensures (temporaries (expr_of c.in-Pick.yes.value)) (temporaries (expr_of c.in-Pick.no.value)) (held c.expression-in-Pick-2.result c.deref-in-Pick-2.ensures c.expression-in-Pick-2.ensures) (held c.expression-in-Pick-3.result c.deref-in-Pick-3.ensures c.expression-in-Pick-3.ensures)))
