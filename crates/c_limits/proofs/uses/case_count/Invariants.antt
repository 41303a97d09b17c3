use Rattle.std.proofs.Common.{◌≡◌, ◌≤◌, take}
use Rattle.c_tree.specs.View.{choice_list}
use Rattle.c_tree.specs.Uses as uses
use Rattle.c_limits.proofs.uses.case_count.Given as goal

abbrev pub invariant-loop-choice : goal.invariant-loop-choice
invariant-loop-choice l = (l.count ≡ uses.case_count (choice_list (take l.choice-index l.list))) × (l.count ≤ l.choice-index)
