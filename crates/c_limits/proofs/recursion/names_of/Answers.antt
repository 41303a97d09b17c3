use Rattle.std.proofs.Common.{◌∙◌}
use Rattle.c_limits.proofs.ChainLemmas.{names_further}
use Rattle.c_limits.proofs.recursion.names_of.Goals as goal

pub loop-number-preserved : goal.loop-number-preserved
loop-number-preserved c =
    names_further c.args.functions.now c.args.numbers.now c.loop-number.number-index c.index-functions-number.result c.loop-number.names.items c.push.new.self.items
    c.in_ok-copy_of.field-0 c.loop-number-test.true (c.requires c.loop-number.number-index 0 c.loop-number-test.true) c.index-functions-number.is c.loop-number.invariant
    c.in_ok-push.ensures.items (c.in_ok-copy_of.ensures ∙ c.as_str.ensures)
