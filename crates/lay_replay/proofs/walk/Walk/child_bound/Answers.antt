-- A complete child's bound is what it costs.
use Rattle.std.proofs.Common.{ap, sym, subst, ◌∙◌, arith, w64}
use Rattle.std.specs.Prelude.{pos}
use Rattle.std.proofs.lemmas.Bool.{eqb-true}
use Rattle.std.proofs.lemmas.Int.{ints, to_z_pos}
use Rattle.lay_cost.specs.Parts.{node_lists}
use Rattle.lay_tree.specs.Tree.{with_scalar}
use Rattle.lay_node.specs.Numbers.{AreSmall}
use Rattle.lay_node.specs.Positions.{here}
use Rattle.lay_node.proofs.Proper.{proper_string, child_small, cost_small}
use Rattle.lay_node.proofs.Descending.{proper_child}
use Rattle.lay_node.proofs.Walking.{complete_of}
use Rattle.lay_replay.proofs.walk.Walk.child_bound.Goals as goal

pub overflow_cast-result : goal.overflow_cast-result
overflow_cast-result c =
    let small = cost_small c.args.seq.now (node_lists (with_scalar (here c.args.self.now.position) c.args.scalar)) c.requires.place.sequence in
    let is = c.complete_cost.ensures.cost in
    omega (arith, ints, small, is)

pub bound-requires : goal.bound-requires
bound-requires c =
    let seq = c.args.seq.now in
    let p = c.args.self.now.position in
    let at_it = c.requires.place in
    subst (λ k. AreSmall k) (sym c.requires.child) (child_small p.registers seq (here p) c.args.scalar at_it.sequence (proper_string seq.scalars p.string.items at_it.string) (proper_child seq p c.args.scalar at_it c.requires.scalar c.requires.unplaced) c.requires.scalar c.requires.unplaced)

pub returns-then-is_complete-clause-bound : goal.returns-then-is_complete-clause-bound
returns-then-is_complete-clause-bound c =
    let seq = c.args.seq.now in
    let p = c.args.self.now.position in
    let node = with_scalar (here p) c.args.scalar in
    let small = cost_small seq (node_lists node) c.requires.place.sequence in
    let is = c.complete_cost.ensures.cost in
    let complete = complete_of p.registers seq node c.args.child c.requires.child (eqb-true c.args.child.unplaced 0 (sym c.is_complete.ensures ∙ c.if-is_complete.true)) in
    to_z_pos w64 c.complete_cost.result (omega (arith, small, is)) ∙ rw complete (ap pos is)
