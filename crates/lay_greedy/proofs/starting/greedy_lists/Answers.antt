-- One list more, or an empty one.
use Rattle.std.proofs.Common.{◌≡◌, ◌<◌, ◌≤◌, [], get_or, length, ap, ◌∙◌, arith}
use Rattle.std.proofs.lemmas.Grind.{common_steps}
use Rattle.std.proofs.lemmas.List.{get_or_read}
use Rattle.lay_tree.specs.Greedy.{greedy_list}
use Rattle.lay_greedy.proofs.Starts.{greedy_more, greedy_same}
use Rattle.lay_greedy.proofs.starting.greedy_lists.Goals as goal
use Rattle.lay_greedy.proofs.starting.greedy_lists.Goals.{then-not-is_empty+in_ok-greedy_list+in_ok-push, else-not-is_empty}

pub loop-list-preserved : goal.loop-list-preserved
loop-list-preserved c =
    let seq = c.args.seq.now in
    let lists = c.args.lists.now in
    let i = c.loop-list.list-index in
    let list = c.list-item.result in
    let lt : i < length lists = c.loop-list-test.true in
    let read : list ≡ get_or lists i [] = get_or_read lists i list lt c.list-item.is [] in
    elim c.if-not-is_empty.branch [
      | then-not-is_empty+in_ok-greedy_list+in_ok-push w ↦
          let some : 1 ≤ length list = grind (arith, common_steps) in
          let is : w.in_ok-greedy_list.field-0 ≡ greedy_list seq list = w.in_ok-greedy_list.ensures ∙ ap (greedy_list seq) w.scalars-then-not-is_empty.ensures
          in ap (λ v. v.items) w.greedy-is ∙ (w.in_ok-push.ensures.items ∙ greedy_more seq lists c.loop-list.greedy.items i list w.in_ok-greedy_list.field-0 lt read some is c.loop-list.invariant)
      | else-not-is_empty w ↦
          let none : length list ≡ 0 = grind (arith, common_steps)
          in ap (λ v. v.items) w.greedy-is ∙ greedy_same seq lists c.loop-list.greedy.items i list lt read none c.loop-list.invariant
    ]
