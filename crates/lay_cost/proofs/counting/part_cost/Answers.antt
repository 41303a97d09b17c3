-- Sign by sign the places stay those of the string.
use Rattle.std.proofs.Common.{◌+◌, subst, sym, ◌∙◌, ne_eqb}
use Rattle.std.specs.Prelude.{slice_index}
use Rattle.lay_cost.specs.declared.places.Places.{Places}
use Rattle.lay_cost.specs.Parts.{close, lists_of}
use Rattle.lay_cost.proofs.PlaceLemmas.{table_cost}
use Rattle.lay_cost.proofs.Strings.{State, string_small, first_state, scalar_small, scalar_fits, close_fits, scalar_state, close_state, state_table, state_near, node_fits}
use Rattle.lay_cost.proofs.counting.part_cost.Goals as goal
use Rattle.lay_cost.proofs.counting.part_cost.Goals.{then-sign, else-sign}

pub loop-sign-init : goal.loop-sign-init
loop-sign-init c = subst (λ (p : Places). State c.args.node.now 0 p) (sym c.none-places.ensures) (first_state c.args.node.now)

pub close-requires : goal.close-requires
close-requires c =
    let small = string_small c.args.seq.now.scalars c.args.node.now c.scalars-few.ensures.sequence.few c.requires in
    close_fits c.args.node.now c.loop-sign.sign-index c.loop-sign.places small c.loop-sign.invariant c.loop-sign-test.true c.if-sign.true

pub push-requires-clause-scalar : goal.push-requires-clause-scalar
push-requires-clause-scalar c =
    let small = string_small c.args.seq.now.scalars c.args.node.now c.scalars-few.ensures.sequence.few c.requires in
    scalar_small c.args.node.now c.loop-sign.sign-index small c.loop-sign-test.true (ne_eqb (slice_index c.args.node.now c.loop-sign.sign-index) close c.if-sign.false)

pub push-requires-clause-room : goal.push-requires-clause-room
push-requires-clause-room c =
    let small = string_small c.args.seq.now.scalars c.args.node.now c.scalars-few.ensures.sequence.few c.requires in
    scalar_fits c.args.node.now c.loop-sign.sign-index c.loop-sign.places small c.loop-sign.invariant c.loop-sign-test.true (ne_eqb (slice_index c.args.node.now c.loop-sign.sign-index) close c.if-sign.false)

pub loop-sign-preserved : goal.loop-sign-preserved
loop-sign-preserved c =
    let node = c.args.node.now in
    let i = c.loop-sign.sign-index in
    let small = string_small c.args.seq.now.scalars node c.scalars-few.ensures.sequence.few c.requires in
    let next = λ (p : Places). State node (i + 1) p in
    elim c.if-sign.branch [
      | then-sign w ↦ subst next (sym (w.places-is ∙ w.close.ensures)) (close_state node i c.loop-sign.places small c.loop-sign.invariant c.loop-sign-test.true w.if-sign.true)
      | else-sign w ↦ subst next (sym (w.places-is ∙ w.push.ensures)) (scalar_state node i c.loop-sign.places small c.loop-sign.invariant c.loop-sign-test.true (ne_eqb (slice_index node i) close w.if-sign.false))
    ]

pub cost_over-requires : goal.cost_over-requires
cost_over-requires c =
    let small = string_small c.args.seq.now.scalars c.args.node.now c.scalars-few.ensures.sequence.few c.requires in
    state_near c.args.node.now c.loop-sign.sign-index c.loop-sign.places small c.loop-sign.invariant

pub returns : goal.returns
returns c =
    let small = string_small c.args.seq.now.scalars c.args.node.now c.scalars-few.ensures.sequence.few c.requires in
    c.cost_over.ensures.cost ∙ table_cost c.args.seq.now (lists_of c.args.node.now) c.loop-sign.places.places (state_table c.args.node.now c.loop-sign.sign-index c.loop-sign.places c.loop-sign.invariant c.loop-sign-test.false) (node_fits c.args.node.now c.loop-sign.sign-index c.loop-sign.places small c.loop-sign.invariant c.loop-sign-test.false)
