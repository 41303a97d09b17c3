use Rattle.c_statements.proofs.Boxes.{block_tree}
use Rattle.c_statements.proofs.statements.block_over.Goals as goal

pub returns-clause-tree : goal.returns-clause-tree
returns-clause-tree c = block_tree c.args.body.tree.declarations c.args.body.tree.statements c.args.at
