use Rattle.tree_code.proofs.LoweredLemmas.{statement_further, choice_further, of_block, of_switch, block_made, switch_made}
use Rattle.tree_code.proofs.WordsLemmas.{statement_used, choice_used, block_used, switch_used}
use Rattle.tree_code.proofs.statements.+statements.Goals as goal

pub statements-loop-s-preserved : goal.statements-loop-s-preserved
statements-loop-s-preserved t c = record {
  tree = statement_further c.args.list.now c.loop-s.s-index c.s-item.result c.loop-s.all.items c.push.new.self.items c.in_ok-statement.field-0 c.s-item.is c.loop-s-test.true
      c.loop-s.invariant.tree c.in_ok-push.ensures.items c.in_ok-statement.ensures.tree;
  words = statement_used c.args.list.now c.loop-s.s-index c.s-item.result c.s-item.is c.loop-s-test.true c.loop-s.invariant.words c.in_ok-statement.ensures.words;
}

pub choices-loop-part-preserved : goal.choices-loop-part-preserved
choices-loop-part-preserved t c = record {
  tree = choice_further c.args.list.now c.loop-part.part-index c.part-item.result c.loop-part.all.items c.push.new.self.items c.in_ok-choice.field-0 c.part-item.is c.loop-part-test.true
      c.loop-part.invariant.tree c.in_ok-push.ensures.items c.in_ok-choice.ensures.tree;
  words = choice_used c.args.list.now c.loop-part.part-index c.part-item.result c.part-item.is c.loop-part-test.true c.loop-part.invariant.words c.in_ok-choice.ensures.words;
}

pub block-returns-clause-tree : goal.block-returns-clause-tree
block-returns-clause-tree t c = block_made c.in_ok-declared.declared c.in_ok-body.body (c.in_ok-declared.ensures.items_if_clones_equal (λ x y same. same)) c.in_ok-body.ensures.tree

pub switch-returns-clause-tree : goal.switch-returns-clause-tree
switch-returns-clause-tree t c = switch_made c.in_ok-value.value c.in_ok-choices.choices c.in_ok-value.ensures.tree c.in_ok-choices.ensures.tree

pub statement-returns-in-Block-clause-tree : goal.statement-returns-in-Block-clause-tree
statement-returns-in-Block-clause-tree t c =
    of_block c.block.result c.args.s.now c.in-Block.declared c.in-Block.body c.in-Block.is c.deref.ensures.value c.deref-in-Block.ensures.value c.block.ensures.tree

pub statement-returns-in-Switch-clause-tree : goal.statement-returns-in-Switch-clause-tree
statement-returns-in-Switch-clause-tree t c =
    of_switch c.switch.result c.args.s.now c.in-Switch.value c.in-Switch.all c.in-Switch.is c.deref-in-Switch.ensures.value c.switch.ensures.tree

pub statement-returns-in-Block-clause-words : goal.statement-returns-in-Block-clause-words
statement-returns-in-Block-clause-words t c = block_used c.block.result c.args.s.now c.in-Block.declared c.in-Block.body c.in-Block.is c.deref-in-Block.ensures.value c.block.ensures.words

pub statement-returns-in-Switch-clause-words : goal.statement-returns-in-Switch-clause-words
statement-returns-in-Switch-clause-words t c = switch_used c.switch.result c.args.s.now c.in-Switch.value c.in-Switch.all c.in-Switch.is c.deref-in-Switch.ensures.value c.switch.ensures.words
