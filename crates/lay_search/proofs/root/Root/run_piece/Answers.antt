-- The search begins at the root with the arrangement as the best one.
use Rattle.std.proofs.Common.{◌≡◌, ap, sym, subst, ◌∙◌, arith}
use Rattle.std.specs.List.{join_with_byte}
use Rattle.lay_tree.specs.declared.answer.PieceEnd.{PieceEnd}
use Rattle.lay_tree.specs.Tree.{root, with_scalar}
use Rattle.lay_tree.specs.Search.{piece_end}
use Rattle.lay_cost.specs.Parts.{lists_of}
use Rattle.lay_node.specs.declared.position.Position.{Position}
use Rattle.lay_node.specs.Numbers.{kept_in}
use Rattle.lay_node.specs.Positions.{here, IsAt}
use Rattle.lay_node.proofs.Descending.{copy_at, copy_here}
use Rattle.lay_search.specs.Descents.{is_finished}
use Rattle.lay_search.specs.Ends.{IsEnd}
use Rattle.lay_search.proofs.Visiting.{if_ok}
use Rattle.lay_search.proofs.Piecing.{new_best, piece_ends}
use Rattle.lay_search.proofs.root.Root.run_piece.Goals as goal

pub visit_scalar-requires-clause-place : goal.visit_scalar-requires-clause-place
visit_scalar-requires-clause-place c =
    subst (λ p. IsAt c.args.seq.now p) (sym c.new-descent.ensures.position) (copy_at c.args.seq.now c.args.self.now.position c.in_ok-position.position c.requires.root.place c.in_ok-position.ensures)

pub visit_scalar-requires-clause-best : goal.visit_scalar-requires-clause-best
visit_scalar-requires-clause-best c =
    new_best c.args.seq.now c.in_ok-position.position c.args.quota c.in_ok-best.best.items c.args.arrangement.now c.args.cost c.new-descent.result c.new-descent.ensures
    (c.in_ok-best.ensures ∙ ap (λ ls. join_with_byte 255 ls) c.lists.ensures.lists) c.requires.arranges (omega (arith, c.requires.number)) c.requires.cost

pub visit_scalar-requires-clause-kept : goal.visit_scalar-requires-clause-kept
visit_scalar-requires-clause-kept c =
    let seq = c.args.seq.now in
    let p = c.in_ok-position.position in
    let nothing = copy_here c.args.self.now.position p c.in_ok-position.ensures ∙ c.requires.root.nothing in
    c.requires.root.numbers ∙ ap (λ k. kept_in k seq root) (sym c.in_ok-position.ensures.registers) ∙ ap (kept_in p.registers seq) (sym nothing) ∙ ap (λ (q : Position). kept_in q.registers seq (here q)) (sym c.new-descent.ensures.position)

pub returns : goal.returns
returns c =
    let seq = c.args.seq.now in
    let k = c.args.self.now.position.registers in
    let last = c.visit_scalar.new.self in
    let ending = c.in_ok-ending.ending in
    let copy = c.in_ok-position.ensures in
    let nothing = copy_here c.args.self.now.position c.in_ok-position.position copy ∙ c.requires.root.nothing in
    if_ok (λ (e : PieceEnd). e ≡ record { arrangement = lists_of last.best.items; cost = last.cost; finished = is_finished ending; log = last.marks.items })
    (λ e. IsEnd seq (piece_end k seq c.args.quota c.args.arrangement.now (with_scalar root c.args.number)) e) c.end_of.result
    (λ e h. piece_ends seq k c.in_ok-position.position c.args.quota c.args.number c.in_ok-best.best.items c.args.arrangement.now c.args.cost c.new-descent.result last ending e c.new-descent.ensures copy.registers nothing
    (c.in_ok-best.ensures ∙ ap (λ ls. join_with_byte 255 ls) c.lists.ensures.lists) c.requires.arranges (omega (arith, c.requires.number)) c.in_ok-ending.ensures h) c.end_of.ensures
