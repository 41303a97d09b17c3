use Rattle.c_statements.proofs.Boxes.{switch_tree}
use Rattle.c_statements.proofs.statements.switch_over.Goals as goal

pub returns-clause-tree : goal.returns-clause-tree
returns-clause-tree c = rw (c.over.ensures, c.into_inner.ensures) (switch_tree c.args.value.value c.args.parts c.args.parts_at c.args.at)
