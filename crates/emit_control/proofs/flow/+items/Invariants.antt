use Rattle.std.proofs.Common.{◌+◌, ◌*◌, length}
use Rattle.acc_code.specs.AccView.{item_list, item_of}
use Rattle.emit_control.specs.Settings.{setting_of}
use Rattle.emit_control.proofs.Listing.{size, item_size, SoFar}
use Rattle.emit_control.proofs.flow.+items.Given as goal

-- lists and items have their sizes as measures; what calls another on the same items stands above it
abbrev pub decreases-list : goal.decreases-list
decreases-list l = 4 * size (item_list l.items.now) + 3

abbrev pub decreases-item : goal.decreases-item
decreases-item l = 4 * item_size (item_of l.x.now) + 2

abbrev pub decreases-if_item : goal.decreases-if_item
decreases-if_item l = 4 * (1 + size (item_list l.yes.now) + size (item_list l.no.now)) + 3

abbrev pub decreases-both_parts : goal.decreases-both_parts
decreases-both_parts l = 4 * (1 + size (item_list l.yes.now) + size (item_list l.no.now)) + 2

abbrev pub decreases-loop_item : goal.decreases-loop_item
decreases-loop_item l = 4 * (1 + size (item_list l.before.now) + size (item_list l.body.now) + size (item_list l.third.now)) + 3

abbrev pub decreases-loop_end : goal.decreases-loop_end
decreases-loop_end l = 4 * size (item_list l.third.now) + 4

abbrev pub decreases-switch_item : goal.decreases-switch_item
decreases-switch_item l = 4 * (1 + size (item_list l.body.now)) + 3

-- the items before the place of the loop have been emitted
abbrev pub invariant-list-loop-first : goal.invariant-list-loop-first
invariant-list-loop-first l = SoFar (setting_of l.setting) l.fn.code (item_list l.fn.items) l.spot l.code l.base (item_list l.rest)

abbrev pub decreases-list-loop-first : goal.decreases-list-loop-first
decreases-list-loop-first l = length l.rest
