-- One more list, behind a close where one stands before it.
use Rattle.std.proofs.Common.{◌≡◌, ◌≤◌, ◌++◌, length, ap, sym, ◌∙◌, arith}
use Rattle.std.proofs.lemmas.Bool.{eqb-true, eqb-false}
use Rattle.lay_search.proofs.Joining.{join_next, join_first}
use Rattle.lay_search.proofs.pieces.string_of.Goals as goal
use Rattle.lay_search.proofs.pieces.string_of.Goals.{then-not-is_empty+in_ok-push, else-not-is_empty}

pub loop-list-preserved : goal.loop-list-preserved
loop-list-preserved c =
    let ls = c.args.lists.now in
    let i = c.loop-list.list-index in
    let string = c.loop-list.string.items in
    let extended = c.in_ok-extend_from_slice.ensures.items in
    let empty = c.is_empty.ensures in
    elim c.if-not-is_empty.branch [
      | then-not-is_empty+in_ok-push w ↦
          let some : 1 ≤ length string = omega (arith, eqb-false c.loop-list.string.len 0 (sym empty ∙ w.if-not-is_empty.true), c.loop-list.string.ok.0) in
          join_next ls i string w.push.new.self.items c.extend_from_slice.new.self.items c.list-item.result c.scalars.result.now c.loop-list-test.true c.loop-list.invariant some w.in_ok-push.ensures.items (extended ∙ ap (λ s. s.items ++ c.scalars.result.now) w.string-is) c.scalars.ensures c.list-item.is
      | else-not-is_empty w ↦
          let none : length string ≡ 0 = omega (arith, eqb-true c.loop-list.string.len 0 (sym empty ∙ w.if-not-is_empty.false), c.loop-list.string.ok.0) in
          join_first ls i string c.extend_from_slice.new.self.items c.list-item.result c.scalars.result.now c.requires c.loop-list-test.true c.loop-list.invariant none (extended ∙ ap (λ s. s.items ++ c.scalars.result.now) w.string-is) c.scalars.ensures c.list-item.is
    ]
