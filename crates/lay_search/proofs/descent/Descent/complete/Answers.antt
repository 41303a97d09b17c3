-- It costs what its layout does.
use Rattle.std.proofs.Common.{[], ◌∷◌, ◌++◌, subst}
use Rattle.lay_tree.specs.Tree.{with_scalar}
use Rattle.lay_node.specs.Positions.{here}
use Rattle.lay_search.specs.Descents.{Offers, Completes}
use Rattle.lay_search.proofs.Visiting.{if_ok, at_position}
use Rattle.lay_search.proofs.Completing.{completed}
use Rattle.lay_search.proofs.descent.Descent.complete.Goals as goal

pub returns : goal.returns
returns c =
    let seq = c.args.seq.now in
    let old = c.args.self.now in
    let s = c.args.scalar in
    let cost = c.complete_cost-cost.result in
    let new = c.offer.new.self in
    if_ok (λ _. Offers (c.complete_cost-cost.new.self.string.items ++ (s ∷ [])) cost (at_position old c.complete_cost-cost.new.self) new) (λ _. Completes seq (with_scalar (here old.position) s) old new) c.offer.result
    (λ _ offers. completed seq old new s cost c.requires.place c.requires.best c.requires.scalar c.requires.unplaced c.requires.complete c.complete_cost-cost.ensures.cost
    (subst (λ p. Offers (p.string.items ++ (s ∷ [])) cost (at_position old p) new) c.complete_cost-cost.ensures.same offers)) c.offer.ensures
