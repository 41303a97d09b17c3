-- All scalars are placed in the string, so what it costs is what the layout costs.
use Rattle.std.proofs.Common.{ℕ, List, length, refl, ap, sym, subst, ◌∙◌, arith}
use Rattle.lay_model.specs.Arrangements.{Arranges}
use Rattle.lay_cost.specs.Cost.{arranged_cost}
use Rattle.lay_cost.specs.Parts.{node_lists, IsString}
use Rattle.lay_node.specs.declared.position.Position.{Position}
use Rattle.lay_node.specs.Numbers.{kept_at, AreSmall}
use Rattle.lay_node.specs.Strings.{node_of}
use Rattle.lay_node.specs.Positions.{here}
use Rattle.lay_node.proofs.Strung.{node_scalar}
use Rattle.lay_node.proofs.Proper.{child_small, proper_string}
use Rattle.lay_node.proofs.Descending.{string_child, proper_child, popped}
use Rattle.lay_node.proofs.Completing.{child_arranges}
use Rattle.lay_node.proofs.Rooms.{room_to_enter}
use Rattle.lay_node.proofs.position.Position.complete_cost.Goals as goal

pub push-requires : goal.push-requires
push-requires c = (omega arith, room_to_enter c.args.seq.now c.args.self.now c.args.scalar c.requires.place c.requires.scalar c.requires.unplaced)

pub cost_here-cost-requires-clause-string : goal.cost_here-cost-requires-clause-string
cost_here-cost-requires-clause-string c = subst (λ xs. IsString c.args.seq.now.scalars xs) (sym c.push.ensures.items) (string_child c.args.seq.now c.args.self.now c.args.scalar c.requires.place c.requires.scalar c.requires.unplaced)

pub cost_here-cost-requires-clause-arranges : goal.cost_here-cost-requires-clause-arranges
cost_here-cost-requires-clause-arranges c =
    let few = c.requires.place.sequence.few in
    let e = ap node_of c.push.ensures.items ∙ node_scalar c.args.self.now.string.items c.args.scalar (omega (arith, c.requires.scalar, few)) in
    subst (λ n. Arranges c.args.seq.now.scalars (node_lists n)) (sym e) (child_arranges c.args.seq.now c.args.self.now c.args.scalar c.requires.place c.requires.scalar c.requires.unplaced c.requires.complete)

pub cost_here-cost-requires-clause-kept : goal.cost_here-cost-requires-clause-kept
cost_here-cost-requires-clause-kept c =
    let few = c.requires.place.sequence.few in
    let e = ap node_of c.push.ensures.items ∙ node_scalar c.args.self.now.string.items c.args.scalar (omega (arith, c.requires.scalar, few)) in
    c.requires.child ∙ ap (kept_at c.args.self.now.registers c.args.seq.now) (sym e)

pub cost_here-cost-requires-clause-small : goal.cost_here-cost-requires-clause-small
cost_here-cost-requires-clause-small c =
    let seq = c.args.seq.now in
    let d = c.args.self.now in
    let at_it = c.requires.place in
    subst (λ k. AreSmall k) (sym c.requires.child) (child_small d.registers seq (here d) c.args.scalar at_it.sequence (proper_string seq.scalars d.string.items at_it.string) (proper_child seq d c.args.scalar at_it c.requires.scalar c.requires.unplaced) c.requires.scalar c.requires.unplaced)

pub returns-clause-cost : goal.returns-clause-cost
returns-clause-cost c =
    let few = c.requires.place.sequence.few in
    let e = ap node_of c.push.ensures.items ∙ node_scalar c.args.self.now.string.items c.args.scalar (omega (arith, c.requires.scalar, few)) in
    c.cost_here-cost.ensures ∙ ap (λ n. arranged_cost c.args.seq.now (node_lists n)) e

pub returns-clause-same : goal.returns-clause-same
returns-clause-same c =
    let p = c.args.self.now in
    let back = popped c.push.new.self.items c.pop.new.self.items p.string.items (length c.push.new.self.items) c.args.scalar refl c.pop.ensures.rest c.push.ensures.items in
    ap (λ xs. make p xs) back
  where
    make : Position → List ℕ → Position
    make p xs = record { registers = p.registers; string = record { items = xs }; placed = p.placed; outside = p.outside; levels = p.levels }
