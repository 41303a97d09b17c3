use Rattle.std.proofs.Common.{◌∙◌}
use Rattle.c_tree.specs.TypedTree.{Block}
use Rattle.c_tree.specs.View.{statement_list}
use Rattle.c_tree.proofs.Views.{block_of_list}
use Rattle.c_types.proofs.statements.empty.Goals as goal

pub returns : goal.returns
returns c = block_of_list c.new.result c.new-2.result ∙ (λ i. Block (c.new.ensures.items i) (statement_list (c.new-2.ensures.items i)))
