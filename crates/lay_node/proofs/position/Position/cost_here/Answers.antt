-- At a step of 1 by what is kept, else as the cost of all scalars.
use Rattle.std.proofs.Common.{◌≡◌, ap, arith}
use Rattle.lay_node.specs.declared.kept.Kept.{Kept}
use Rattle.lay_node.specs.Positions.{here}
use Rattle.lay_node.proofs.Proper.{complete_cost, complete_part, proper_string}
use Rattle.lay_node.proofs.position.Position.cost_here.Goals as goal

pub cost-requires-clause-saved : goal.cost-requires-clause-saved
cost-requires-clause-saved c =
    let seq = c.args.seq.now in
    let node = here c.args.self.now in
    let one : seq.step ≡ 1 = omega (arith, c.step.ensures, c.if-step-gt1.false, c.requires.sequence.moves) in
    let law = complete_cost c.args.self.now.registers seq node c.requires.sequence one (proper_string seq.scalars c.args.self.now.string.items c.requires.string) c.requires.arranges in
    omega (arith, law, ap (λ (k : Kept). k.saved) c.requires.kept, ap (λ (k : Kept). k.closed) c.requires.kept, ap (λ (k : Kept). k.loads) c.requires.kept, ap (λ (k : Kept). k.paid) c.requires.kept)

pub returns-then-step-gt1 : goal.returns-then-step-gt1
returns-then-step-gt1 c =
    let deref : c.deref.result.now ≡ c.args.self.now.string.items = c.deref.ensures.0 in
    rw (c.part_cost.ensures, deref) (complete_part c.args.seq.now c.args.self.now.string.items c.requires.sequence c.requires.arranges)

pub returns-else-step-gt1 : goal.returns-else-step-gt1
returns-else-step-gt1 c =
    let seq = c.args.seq.now in
    let node = here c.args.self.now in
    let one : seq.step ≡ 1 = omega (arith, c.step.ensures, c.if-step-gt1.false, c.requires.sequence.moves) in
    let law = complete_cost c.args.self.now.registers seq node c.requires.sequence one (proper_string seq.scalars c.args.self.now.string.items c.requires.string) c.requires.arranges in
    omega (arith, law, c.cost.ensures, ap (λ (k : Kept). k.saved) c.requires.kept, ap (λ (k : Kept). k.closed) c.requires.kept, ap (λ (k : Kept). k.loads) c.requires.kept, ap (λ (k : Kept). k.paid) c.requires.kept)
