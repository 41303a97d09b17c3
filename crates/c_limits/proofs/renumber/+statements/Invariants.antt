use Rattle.c_tree.specs.View.{stmt_of}
use Rattle.c_rules.specs.Renumbering as by
use Rattle.c_tree.specs.Replaced.{IsReplacedTo}
use Rattle.c_tree.proofs.Choices.{alone}
use Rattle.c_limits.proofs.renumber.+statements.Given as goal

abbrev pub invariant-statements-loop-s : goal.invariant-statements-loop-s
invariant-statements-loop-s l = IsReplacedTo stmt_of (by.statement l.frame) l.s-index l.initial.s-items l.s-items

abbrev pub invariant-choices-loop-part : goal.invariant-choices-loop-part
invariant-choices-loop-part l = IsReplacedTo alone (by.choices l.frame) l.part-index l.initial.part-items l.part-items
