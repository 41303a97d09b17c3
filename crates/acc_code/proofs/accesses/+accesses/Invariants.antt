use Rattle.std.proofs.Common.{take}
use Rattle.acc_code.specs.AccView.{item_list}
use Rattle.acc_code.specs.AccSequence.{Gathers, accesses}
use Rattle.acc_code.proofs.accesses.+accesses.Given as goal

-- the items before the place of the loop have been gone through
abbrev pub invariant-list-loop-x : goal.invariant-list-loop-x
invariant-list-loop-x l = Gathers l.initial.blocks.closed l.initial.blocks.block.items (accesses (item_list (take l.x-index l.items))) l.blocks.closed l.blocks.block.items
