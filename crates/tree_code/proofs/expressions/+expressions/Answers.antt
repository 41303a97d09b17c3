use Rattle.std.proofs.Common.{◌∙◌, ap}
use Rattle.tree_code.specs.WordTree as word
use Rattle.tree_code.proofs.LoweredLemmas.{argument_further, of_call}
use Rattle.tree_code.proofs.WordsLemmas.{argument_used, call_used}
use Rattle.tree_code.proofs.Views.{word_call_form}
use Rattle.tree_code.proofs.expressions.+expressions.Goals as goal

pub arguments-loop-e-preserved : goal.arguments-loop-e-preserved
arguments-loop-e-preserved t c = record {
  tree = argument_further c.args.list.now c.loop-e.e-index c.e-item.result c.loop-e.all.items c.push.new.self.items c.in_ok-expression.field-0 c.e-item.is c.loop-e-test.true
      c.loop-e.invariant.tree c.in_ok-push.ensures.items c.in_ok-expression.ensures.tree;
  words = argument_used c.args.list.now c.loop-e.e-index c.e-item.result c.e-item.is c.loop-e-test.true c.loop-e.invariant.words c.in_ok-expression.ensures.words;
}

pub call-returns-clause-tree : goal.call-returns-clause-tree
call-returns-clause-tree t c =
    ap (λ f. word.Node f c.args.at) (word_call_form c.args.function c.in_ok-args.args ∙ ap (word.Call c.args.function) c.in_ok-args.ensures.tree)

pub operation-returns-in-Call-clause-tree : goal.operation-returns-in-Call-clause-tree
operation-returns-in-Call-clause-tree t c =
    of_call c.call.result c.args.form.now c.args.kind c.args.at c.in-Call.function c.in-Call.args c.in-Call.is c.deref-in-Call.ensures.value c.call.ensures.tree

pub operation-returns-in-Call-clause-words : goal.operation-returns-in-Call-clause-words
operation-returns-in-Call-clause-words t c = call_used c.call.result c.args.form.now c.in-Call.function c.in-Call.args c.in-Call.is c.deref-in-Call.ensures.value c.call.ensures.words
