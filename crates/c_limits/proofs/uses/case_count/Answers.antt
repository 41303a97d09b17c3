use Rattle.std.proofs.Common.{◌+◌, ap, refl, arith}
use Rattle.c_tree.specs.Uses.{case_count}
use Rattle.c_tree.proofs.Joins.{sums}
use Rattle.c_tree.proofs.Choices.{choices_further}
use Rattle.c_limits.proofs.uses.case_count.Goals as goal

pub loop-choice-preserved : goal.loop-choice-preserved
loop-choice-preserved c =
    let one = c.cases_in-count.ensures.one in
    let so_far = c.loop-choice.invariant.1 in (
      choices_further sums case_count refl (λ w rest. omega arith) (λ rest. omega arith) (λ s rest. omega arith) c.args.list.now c.loop-choice.choice-index c.choice-item.result
          c.choice-item.is c.loop-choice-test.true c.loop-choice.invariant.0 (ap (λ n. c.loop-choice.count + n) c.cases_in-count.ensures.count),
      omega (arith, one, so_far),
    )
