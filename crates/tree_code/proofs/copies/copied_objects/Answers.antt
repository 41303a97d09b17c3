use Rattle.c_tree.specs.View.{object_of}
use Rattle.tree_code.proofs.WordsLemmas.{mapped_further, object_used}
use Rattle.tree_code.proofs.copies.copied_objects.Goals as goal

pub loop-o-preserved : goal.loop-o-preserved
loop-o-preserved c = record {
  tree = mapped_further object_of object_of c.args.list.now c.loop-o.o-index c.o-item.result c.loop-o.copies.items c.push.new.self.items c.in_ok-object.field-0 c.o-item.is c.loop-o-test.true
      c.loop-o.invariant.tree c.in_ok-push.ensures.items c.in_ok-object.ensures.tree;
  words = object_used c.args.list.now c.loop-o.o-index c.o-item.result c.o-item.is c.loop-o-test.true c.loop-o.invariant.words c.in_ok-object.ensures.words;
}
