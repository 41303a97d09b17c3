use Rattle.std.proofs.Common.{◌<◌, ◌^◌, ◌∙◌, sym, ap, arith}
use Rattle.lay_tree.specs.Search.{search_answer, answer_lists, answer_cost}
use Rattle.lay_node.proofs.Proper.{cost_small}
use Rattle.cc_driver.proofs.OptimalLines.{optimal_is_certified}
use Rattle.cc_driver.proofs.laws.optimal_layouts_are_least.Goals as goal

pub returns : goal.returns
returns c = λ bytes registers budget cost answer rest some lt lays text.
    let found = search_answer registers lays.sequence budget in
    let sequence = lays.reads.whole.sequence in
    let small : answer_cost found < 2 ^ 64 = omega (arith, c.answers_cost_little.ensures.says registers lays.sequence budget, cost_small lays.sequence (answer_lists found) sequence) in
    let certified = optimal_is_certified found cost rest lt small (ap (λ a. a.text) (sym lays.is) ∙ text) in
    (lays.sequence, lays.reads, c.certified_answers_are_least.ensures registers lays.sequence budget certified.0 cost certified.1.0 sequence some certified.1.1)
