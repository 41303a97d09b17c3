-- The root's bound.
use Rattle.std.proofs.Common.{sym, subst, ◌∙◌, w64}
use Rattle.std.proofs.lemmas.Bool.{eqb-true, eqb-false}
use Rattle.std.proofs.lemmas.Int.{to_z-of_z}
use Rattle.lay_tree.specs.Tree.{root}
use Rattle.lay_node.specs.Numbers.{AreSmall, needs_weights, needs_greatest}
use Rattle.lay_node.proofs.Proper.{IsProper, proper_string, found_small}
use Rattle.lay_replay.proofs.Walked.{root_costs, root_bounds}
use Rattle.lay_replay.proofs.walk.Walk.root_bound.Goals as goal

pub bound-requires : goal.bound-requires
bound-requires c =
    let seq = c.args.seq.now in
    let p = c.args.self.now.position in
    let proper = subst (λ n. IsProper seq.scalars n) c.requires.root (proper_string seq.scalars p.string.items c.requires.place.string) in
    subst (λ k. AreSmall k) (sym c.requires.kept) (found_small (needs_weights seq) (needs_greatest p.registers seq root) seq root c.requires.place.sequence proper)

pub returns-then-is_complete : goal.returns-then-is_complete
returns-then-is_complete c = root_costs c.args.self.now.position.registers c.args.seq.now c.args.kept c.requires.place.sequence c.requires.kept (eqb-true c.args.kept.unplaced 0 (sym c.is_complete.ensures ∙ c.if-is_complete.true))

pub returns-else-is_complete : goal.returns-else-is_complete
returns-else-is_complete c =
    let some = eqb-false c.args.kept.unplaced 0 (sym c.is_complete.ensures ∙ c.if-is_complete.false) in
    to_z-of_z w64 c.bound.result (record { sfits = c.bound.type_inv }) ∙ c.bound.ensures ∙ root_bounds c.args.self.now.position.registers c.args.seq.now c.args.kept c.requires.kept some
