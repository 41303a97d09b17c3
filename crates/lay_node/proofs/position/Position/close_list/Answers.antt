-- The numbers are those of the node whose open list is closed.
use Rattle.std.proofs.Common.{◌≡◌, ◌<◌, ◌+◌, ℕ, false, refl, ap, ap₂, sym, subst, ◌∙◌, arith}
use Rattle.std.specs.Prelude.{None}
use Rattle.lay_cost.specs.Restricted.{in_bits}
use Rattle.lay_node.specs.declared.kept.Kept.{Kept}
use Rattle.lay_node.specs.declared.position.Position.{Position}
use Rattle.lay_node.specs.Levels.{is_free}
use Rattle.lay_node.specs.Numbers.{kept_found}
use Rattle.lay_node.specs.Strings.{node_of}
use Rattle.lay_node.proofs.Strung.{node_close}
use Rattle.lay_node.proofs.Closings.{closed_at, closed_kept, closes_then}
use Rattle.lay_node.proofs.Rooms.{room_to_close}
use Rattle.lay_node.proofs.position.Position.close_list.Goals as goal

pub push-requires : goal.push-requires
push-requires c = (omega arith, room_to_close c.args.seq.now c.args.self.now c.requires.place c.requires.some)

pub weigh_for_bound-requires-clause-place : goal.weigh_for_bound-requires-clause-place
weigh_for_bound-requires-clause-place c =
    let d = c.args.self.now in
    let seq = c.args.seq.now in
    let bits : (s : ℕ) → s < seq.scalars → in_bits c.unplaced_of-self.result s ≡ is_free d.placed s = λ s less. c.unplaced_of-self.ensures s (subst (λ n. s < n) (sym c.scalars.ensures.scalars) less) in
    closed_at seq d _ c.requires.place c.requires.some c.requires.left refl c.push.ensures.items refl refl bits

pub weigh_for_bound-requires-clause-kept : goal.weigh_for_bound-requires-clause-kept
weigh_for_bound-requires-clause-kept c =
    let d = c.args.self.now in
    let seq = c.args.seq.now in
    let bits : (s : ℕ) → s < seq.scalars → in_bits c.unplaced_of-self.result s ≡ is_free d.placed s = λ s less. c.unplaced_of-self.ensures s (subst (λ n. s < n) (sym c.scalars.ensures.scalars) less) in
    let kept = closed_kept seq d c.unplaced_of-self.result c.closed_cost-closed.result c.loads.result c.requires.place bits c.closed_cost-closed.ensures c.loads.ensures in
    let first = ap₂ (λ (n u : ℕ). (let k : Kept = record { closes = n + 1; unplaced = u; last = None; closed = c.closed_cost-closed.result; loads = c.loads.result; paid = 0; saved = 0; greatest = 0 } in k)) (ap (λ (k : Kept). k.closes) c.requires.kept) (ap (λ (k : Kept). k.unplaced) c.requires.kept) in
    first ∙ kept ∙ ap (kept_found false false seq) (sym (ap node_of c.push.ensures.items ∙ node_close d.string.items))

pub returns : goal.returns
returns c =
    let d = c.args.self.now in
    let middle : Position = record { registers = d.registers; string = c.push.new.self; placed = d.placed; outside = c.unplaced_of-self.result; levels = d.levels } in
    closes_then c.args.seq.now d middle c.weigh_for_bound.new.self c.weigh_for_bound.result c.push.ensures.items refl refl refl c.weigh_for_bound.ensures
