use Rattle.std.proofs.Common.{arith, take, ◌+◌}
use Rattle.tree_code.specs.WordView.{word_expr_of, word_argument_list}
use Rattle.tree_code.specs.WordTemporaries.{word_temporaries, word_argument_temporaries}
use Rattle.tree_code.proofs.CountingLemmas.{argument_further, of_binary, of_call}
use Rattle.tree_code.proofs.counting.+expressions.Goals as goal

pub arguments-loop-e-preserved : goal.arguments-loop-e-preserved
arguments-loop-e-preserved t c = record {
  kept = omega (arith, c.loop-e.invariant.kept, c.saturating_add-kept.ensures);
  most = argument_further c.args.list.now c.loop-e.e-index c.e-item.result c.e-item.is c.loop-e-test.true
      (c.larger-most.ensures (word_argument_temporaries (word_argument_list (take c.loop-e.e-index c.args.list.now))) (c.loop-e.e-index + word_temporaries (word_expr_of c.e-item.result)) c.loop-e.invariant.most
      (omega (arith, c.loop-e.invariant.kept, c.saturating_add.ensures, c.expression.ensures)));
}

pub expression-returns-in-Call : goal.expression-returns-in-Call
expression-returns-in-Call t c = of_call c.args.e.now.form c.in-Call.function c.in-Call.args c.in-Call.is c.deref-in-Call.ensures.value c.arguments.ensures

pub expression-returns-in-Binary : goal.expression-returns-in-Binary
expression-returns-in-Binary t c =
    of_binary c.args.e.now.form c.in-Binary.op c.in-Binary.left c.in-Binary.right c.in-Binary.is c.deref-in-Binary.ensures c.deref-in-Binary-3.ensures
    (c.binary.ensures c.in-Binary.op)
