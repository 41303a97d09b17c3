use Rattle.std.proofs.Common.{arith}
use Rattle.c_rules.specs.Renumbering as by
use Rattle.c_tree.proofs.Replacing.{list_replaced}
use Rattle.c_limits.proofs.renumber.references.Goals as goal

pub returns : goal.returns
returns c =
    list_replaced (by.renumbered c.args.frame.now) c.args.list.now.len c.loop-named.named-index c.loop-named.named-items c.args.list.now.items c.deref_mut-named-items.result.now
    c.deref_mut-named-items.ensures.value (omega (arith, c.args.list.now.ok)) (omega (arith, c.loop-named-test.false)) c.loop-named.invariant
