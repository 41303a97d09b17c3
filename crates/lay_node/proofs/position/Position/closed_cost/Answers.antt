-- At a step of 1 the costs of lists add up.
use Rattle.std.proofs.Common.{◌≡◌, ap, sym, subst, ◌∙◌, arith}
use Rattle.lay_cost.specs.Parts.{IsString, part_cost_of, lists_of}
use Rattle.lay_node.specs.declared.kept.Kept.{Kept}
use Rattle.lay_node.specs.Strings.{node_of}
use Rattle.lay_node.specs.Positions.{here}
use Rattle.lay_node.proofs.Strung.{lists_are}
use Rattle.lay_node.proofs.Proper.{proper_string, part_small}
use Rattle.lay_node.proofs.OpenLists.{open_string, closed_costs}
use Rattle.lay_node.proofs.position.Position.closed_cost.Goals as goal

pub returns-then-step-gt1 : goal.returns-then-step-gt1
returns-then-step-gt1 c = c.part_cost.ensures ∙ ap (λ xs. part_cost_of c.args.seq.now (lists_of xs)) c.deref.ensures.0 ∙ ap (part_cost_of c.args.seq.now) (lists_are c.args.self.now.string.items)

pub part_cost-requires-else-step-gt1 : goal.part_cost-requires-else-step-gt1
part_cost-requires-else-step-gt1 c =
    let seq = c.args.seq.now in
    let at_it = c.requires.place in
    let string = c.args.self.now.string.items in
    let is = c.open_list.ensures ∙ ap (λ xs. (node_of xs).open_list) c.deref-else-step-gt1.ensures.0 in
    subst (λ xs. IsString seq.scalars xs) (sym is) (open_string seq (node_of string) at_it.sequence.few (proper_string seq.scalars string at_it.string))

pub overflow_add-result : goal.overflow_add-result
overflow_add-result c =
    let seq = c.args.seq.now in
    let sequence = c.requires.place.sequence in
    omega (arith, ap (λ (k : Kept). k.closed) c.requires.kept, part_small seq (here c.args.self.now).closed sequence, c.part_cost-else-step-gt1.ensures, part_small seq (lists_of c.open_list.result.now) sequence)

pub returns-else-step-gt1 : goal.returns-else-step-gt1
returns-else-step-gt1 c =
    let seq = c.args.seq.now in
    let at_it = c.requires.place in
    let string = c.args.self.now.string.items in
    let is = c.open_list.ensures ∙ ap (λ xs. (node_of xs).open_list) c.deref-else-step-gt1.ensures.0 in
    let one : seq.step ≡ 1 = omega (arith, c.step.ensures, c.if-step-gt1.false, at_it.sequence.moves) in
    let costs = closed_costs seq (node_of string) at_it.sequence.few one (proper_string seq.scalars string at_it.string) in
    omega (arith, costs, ap (λ (k : Kept). k.closed) c.requires.kept, c.part_cost-else-step-gt1.ensures, ap (λ xs. part_cost_of seq (lists_of xs)) is)
