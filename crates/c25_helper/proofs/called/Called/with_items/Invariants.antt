use Rattle.std.proofs.Common.{◌≡◌, take}
use Rattle.std.specs.Prelude.{fold}
use Rattle.c25_helper.specs.Calls.{with_item}
use Rattle.c25_helper.proofs.called.Called.with_items.Given as goal

abbrev pub invariant-loop-item : goal.invariant-loop-item
invariant-loop-item l = l.called ≡ fold with_item l.fn.self (take l.item-index l.items)
