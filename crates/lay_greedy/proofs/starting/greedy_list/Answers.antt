-- The table has the weights of these scalars.
use Rattle.std.proofs.Common.{◌≡◌, ap, ◌∙◌, flat_map}
use Rattle.std.proofs.lemmas.Result.{IfOk-weaker}
use Rattle.lay_tree.specs.Greedy.{first_with, is_smallest, from_smaller_end, greedy_list}
use Rattle.lay_greedy.proofs.Weighted.{greedy_is}
use Rattle.lay_greedy.proofs.starting.greedy_list.Goals as goal

pub returns : goal.returns
returns c =
    let seq = c.args.seq.now in
    let members = c.args.members.now in
    let is = greedy_is seq c.set_of.result c.in_ok-table.table members c.scalars-few.ensures.sequence c.in_ok-table.ensures c.set_of.ensures c.requires in
    let same = ap (λ paths. flat_map (λ s. from_smaller_end (first_with (is_smallest s) paths)) members) c.in_ok-paths_of.ensures in
    IfOk-weaker c.in_one_list-2.result (λ list. list ≡ flat_map (λ s. from_smaller_end (first_with (is_smallest s) c.in_ok-paths_of.field-0)) members) (λ list. list ≡ greedy_list seq members) (λ list h. h ∙ (same ∙ is)) c.in_one_list-2.ensures
