use Rattle.tree_code.proofs.WordsLemmas.{function_further, function_used}
use Rattle.tree_code.proofs.lowering.functions.Goals as goal

pub loop-f-preserved : goal.loop-f-preserved
loop-f-preserved c = record {
  tree = function_further c.args.list.now c.loop-f.f-index c.f-item.result c.loop-f.all.items c.push.new.self.items c.in_ok-function.field-0 c.f-item.is c.loop-f-test.true
      c.loop-f.invariant.tree c.in_ok-push.ensures.items c.in_ok-function.ensures.tree;
  words = function_used c.args.list.now c.loop-f.f-index c.f-item.result c.f-item.is c.loop-f-test.true c.loop-f.invariant.words c.in_ok-function.ensures.words;
}
