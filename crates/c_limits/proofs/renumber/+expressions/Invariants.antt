use Rattle.c_tree.specs.View.{expr_of}
use Rattle.c_rules.specs.Renumbering as by
use Rattle.c_tree.specs.Replaced.{IsReplacedTo}
use Rattle.c_limits.proofs.renumber.+expressions.Given as goal

abbrev pub invariant-arguments-loop-e : goal.invariant-arguments-loop-e
invariant-arguments-loop-e l = IsReplacedTo expr_of (by.expression l.frame) l.e-index l.initial.e-items l.e-items
