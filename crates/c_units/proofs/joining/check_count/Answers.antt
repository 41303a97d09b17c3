use Rattle.std.proofs.Common.{arith}
use Rattle.c_units.specs.Views.{tree_of}
use Rattle.c_units.proofs.CountLemmas.{count_left, few_in_all}
use Rattle.c_units.proofs.joining.check_count.Goals as goal

pub overflow_add-count : goal.overflow_add-count
overflow_add-count c =
    let all = few_in_all tree_of c.args.files.now c.requires.few c.requires.short in
    let left = count_left tree_of c.args.files.now c.loop-named.named-index c.named-item.result c.named-item.is c.loop-named-test.true in
    omega (arith, all, left, c.loop-named.invariant, c.len.ensures)
