-- The numbers of the root, and its weights where they are needed.
use Rattle.std.proofs.Common.{◌<◌, ℕ, false, not, refl, ap, sym, subst, ◌∙◌, arith}
use Rattle.std.proofs.lemmas.List.{get_or-replicate}
use Rattle.std.specs.Prelude.{replicate}
use Rattle.lay_node.specs.declared.position.Position.{Position}
use Rattle.lay_node.proofs.Rooting.{root_at, root_kept, root_knows}
use Rattle.lay_node.proofs.position.Position.begin.Goals as goal

pub weigh_for_bound-kept-requires-clause-place : goal.weigh_for_bound-kept-requires-clause-place
weigh_for_bound-kept-requires-clause-place c =
    let p = c.args.self.now in
    let few = c.scalars.ensures.sequence.few in
    let root : Position = record { registers = p.registers; string = c.clear.new.self; placed = replicate 64 false; outside = c.unplaced_of-self.result; levels = p.levels } in
    let outside = λ (s : ℕ) (lt : s < c.args.seq.now.scalars). c.unplaced_of-self.ensures s (subst (λ n. s < n) (sym c.scalars.ensures.scalars) lt) ∙ ap not (get_or-replicate 64 s false false (omega (arith, lt, few))) in
    root_at c.args.seq.now root c.scalars.ensures.sequence c.requires.registers c.clear.ensures refl outside c.requires.levels

pub weigh_for_bound-kept-requires-clause-kept : goal.weigh_for_bound-kept-requires-clause-kept
weigh_for_bound-kept-requires-clause-kept c =
    let p = c.args.self.now in
    let few = c.scalars.ensures.sequence.few in
    let root : Position = record { registers = p.registers; string = c.clear.new.self; placed = replicate 64 false; outside = c.unplaced_of-self.result; levels = p.levels } in
    let outside = λ (s : ℕ) (lt : s < c.args.seq.now.scalars). c.unplaced_of-self.ensures s (subst (λ n. s < n) (sym c.scalars.ensures.scalars) lt) ∙ ap not (get_or-replicate 64 s false false (omega (arith, lt, few))) in
    root_kept c.args.seq.now root c.scalars-2.result c.loads.result c.scalars.ensures.sequence c.clear.ensures outside c.scalars-2.ensures.scalars c.loads.ensures

pub returns : goal.returns
returns c =
    let p = c.args.self.now in
    let root : Position = record { registers = p.registers; string = c.clear.new.self; placed = replicate 64 false; outside = c.unplaced_of-self.result; levels = p.levels } in
    let knows = root_knows c.args.seq.now root c.weigh_for_bound-kept.new.self c.weigh_for_costs.new.self c.weigh_for_bound-kept.result c.weigh_for_costs.result c.clear.ensures c.weigh_for_bound-kept.ensures c.weigh_for_costs.ensures in
    record { place = knows.place; numbers = knows.numbers; nothing = knows.nothing; registers = knows.registers }
