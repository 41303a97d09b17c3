use Rattle.std.proofs.Common.{subst}
use Rattle.c_tree.specs.Uses.{called}
use Rattle.c_limits.specs.Calls.{IsOrdered}
use Rattle.c_limits.proofs.CalleeLemmas.{lists_further}
use Rattle.c_limits.proofs.recursion.all_callees.Goals as goal

pub loop-list-preserved : goal.loop-list-preserved
loop-list-preserved c =
    lists_further c.args.uses.now c.loop-list.list-index c.list-item.result c.loop-list.lists.items c.push.new.self.items c.in_ok-callees_of.field-0 c.loop-list-test.true c.list-item.is
    c.loop-list.invariant c.in_ok-push.ensures.items (subst (λ us. IsOrdered c.in_ok-callees_of.field-0.items (called us)) c.deref.ensures.value c.in_ok-callees_of.ensures)
