use Rattle.c_rules.specs.Renumbering as by
use Rattle.c_tree.specs.Replaced.{IsReplacedTo}
use Rattle.c_limits.proofs.renumber.references.Given as goal

abbrev pub invariant-loop-named : goal.invariant-loop-named
invariant-loop-named l = IsReplacedTo (λ r. r) (by.renumbered l.frame) l.named-index l.initial.named-items l.named-items
