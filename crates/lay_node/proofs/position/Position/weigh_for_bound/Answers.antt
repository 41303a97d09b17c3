-- Where bounds don't come from loads alone, all weights are found.
use Rattle.std.proofs.Common.{◌≡◌, true, false, ap, sym, subst, ◌∙◌, arith, sum_by}
use Rattle.lay_cost.specs.Restricted.{in_bits}
use Rattle.lay_cost.specs.Weights.{weight_at}
use Rattle.lay_tree.specs.Tree.{all_scalars, unplaced}
use Rattle.lay_tree.specs.Bound.{sum_of_pairs}
use Rattle.lay_node.specs.declared.kept.Kept.{Kept}
use Rattle.lay_node.specs.Numbers.{kept_found, kept_with, most_beside}
use Rattle.lay_node.specs.Positions.{here, IsAtWith}
use Rattle.lay_node.proofs.Sizes.{table_small, pairs_small}
use Rattle.lay_node.proofs.Needs.{greatest_of_loads}
use Rattle.lay_node.proofs.Weighing.{weighs_not, weighs_as, weighs_level, kept_weighed, total_weighed, sum_weighed}
use Rattle.lay_node.proofs.position.Position.weigh_for_bound.Goals as goal

pub returns-then-bounds_by_loads : goal.returns-then-bounds_by_loads
returns-then-bounds_by_loads c =
    let d = c.args.self.now in
    let seq = c.args.seq.now in
    let none = greatest_of_loads d.registers seq (here d) c.args.kept c.bounds_by_loads.result true (ap (λ (k : Kept). k.closes) c.requires.kept) c.bounds_by_loads.ensures c.if-bounds_by_loads.true in
    weighs_not _ _ seq d c.args.kept (subst (λ b. IsAtWith b b seq d) (sym none) c.requires.place) (c.requires.kept ∙ ap (λ b. kept_found b b seq (here d)) (sym none))

pub total-paid-requires-clause-fits : goal.total-paid-requires-clause-fits
total-paid-requires-clause-fits c =
    let seq = c.args.seq.now in
    let table = c.refill-greatest.new.self.weights in
    let small = table_small seq (in_bits c.args.self.now.outside) table c.scalars.ensures.sequence c.refill-greatest.ensures.weights in
    rw (c.scalars.ensures.scalars) (omega (arith, small, pairs_small (weight_at table) seq.scalars))

pub returns : goal.returns
returns c =
    let d = c.args.self.now in
    let seq = c.args.seq.now in
    let n = here d in
    let l = c.refill-greatest.new.self in
    let at_it = c.requires.place in
    let closes = ap (λ (k : Kept). k.closes) c.requires.kept in
    let all = greatest_of_loads d.registers seq n c.args.kept c.bounds_by_loads.result false closes c.bounds_by_loads.ensures c.if-bounds_by_loads.false in
    let paid : c.total-paid.result ≡ sum_of_pairs (weight_at l.weights) (all_scalars seq) = rw c.scalars.ensures.scalars at c.total-paid.ensures in
    let weights = c.refill-greatest.ensures.weights in
    let sum : c.refill-greatest.result ≡ sum_by (most_beside seq n) (unplaced seq n) = c.refill-greatest.ensures.sum ∙ sum_weighed false false seq d l.weights at_it weights in
    let kept = kept_weighed seq n c.args.kept c.total-paid.result c.refill-greatest.result c.requires.kept c.requires.none (paid ∙ total_weighed false false seq d l.weights at_it weights) ∙ ap (kept_with true seq n) sum in
    weighs_as true true _ _ seq d _ _ all all (weighs_level false false true true seq d c.from.result l _ at_it (c.from.ensures ∙ closes) weights (λ _. c.refill-greatest.ensures.greatest) kept)
