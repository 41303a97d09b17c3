-- Where nodes cost by weights and bounds don't come from them, the weights are found.
use Rattle.std.proofs.Common.{◌≡◌, true, false, refl, ap, ◌∙◌, arith}
use Rattle.std.proofs.lemmas.Bool.{both_ways}
use Rattle.lay_cost.specs.Restricted.{in_bits}
use Rattle.lay_cost.specs.Weights.{weight_at}
use Rattle.lay_tree.specs.Tree.{all_scalars}
use Rattle.lay_tree.specs.Bound.{sum_of_pairs}
use Rattle.lay_node.specs.declared.kept.Kept.{Kept}
use Rattle.lay_node.specs.declared.level.Level.{Level}
use Rattle.lay_node.specs.Numbers.{kept_found, kept_with}
use Rattle.lay_node.specs.Positions.{here}
use Rattle.lay_node.proofs.Sizes.{table_small, pairs_small}
use Rattle.lay_node.proofs.Needs.{weights_below, greatest_of_may_close}
use Rattle.lay_node.proofs.Weighing.{weighs_as, weighs_level, kept_weighed, total_weighed}
use Rattle.lay_node.proofs.position.Position.weigh_for_costs.Goals as goal

pub total-paid-requires-clause-fits : goal.total-paid-requires-clause-fits
total-paid-requires-clause-fits c =
    let seq = c.args.seq.now in
    let table = c.refill.new.self in
    let small = table_small seq (in_bits c.args.self.now.outside) table c.scalars.ensures.sequence c.refill.ensures in
    rw (c.scalars.ensures.scalars) (omega (arith, small, pairs_small (weight_at table) seq.scalars))

pub returns : goal.returns
returns c =
    let d = c.args.self.now in
    let seq = c.args.seq.now in
    let n = here d in
    let table = c.refill.new.self in
    let at_it = c.requires.place in
    let closes = ap (λ (k : Kept). k.closes) c.requires.kept in
    let some = weights_below seq (omega (arith, c.step.ensures, c.if-step-gt1.false, at_it.sequence.moves)) in
    let none = greatest_of_may_close d.registers seq n c.args.kept c.may_close.result true some closes c.may_close.ensures c.if-not-may_close.false in
    let before = c.requires.kept ∙ ap (λ b. kept_found b b seq n) none in
    let paid : c.total-paid.result ≡ sum_of_pairs (weight_at table) (all_scalars seq) = rw c.scalars.ensures.scalars at c.total-paid.ensures in
    let kept = kept_weighed seq n c.args.kept c.total-paid.result c.args.kept.greatest before c.requires.none (paid ∙ total_weighed _ _ seq d table at_it c.refill.ensures) ∙ ap (kept_with true seq n) (ap (λ (k : Kept). k.greatest) before) in
    let l : Level = record { weights = table; greatest = c.index_mut-level.result.now.greatest } in
    weighs_as true false _ _ seq d _ _ some none (weighs_level _ _ true false seq d c.from.result l _ at_it (c.from.ensures ∙ closes) c.refill.ensures (λ no. absurd (both_ways false refl no)) kept)
