use Rattle.std.proofs.Common.{◌≡◌, ◌<◌, ◌∙◌, true, false, get_or, length, refl, ap, arith}
use Rattle.std.proofs.lemmas.List.{get_or_default}
use Rattle.c25_sim.specs.MachineView.{state_of}
use Rattle.lay_profile.specs.Entries.{times_at}
use Rattle.lay_profile.proofs.Counts.{none_counted, one_counted, all_counted, count_fits, last_step, one_behind}
use Rattle.lay_profile.proofs.recording.count_steps.Goals as goal

pub loop-init : goal.loop-init
loop-init c = record {
  length = c.in_ok-counts.ensures.len;
  stands = refl;
  runs = refl;
  times = none_counted (state_of c.args.machine.now) c.in_ok-counts.counts.items (c.in_ok-counts.ensures.items_if_clones_equal (λ y e. e));
}

pub overflow_add-index_mut : goal.overflow_add-index_mut
overflow_add-index_mut c =
    let table = c.loop.counts.items in
    let long : length table ≡ 65536 = omega (arith, c.loop.invariant.length) in
    let below : c.from.result < 65536 = omega (arith, c.from.ensures, c.pc.type_inv) in
    let value : c.index_mut.result.now ≡ get_or table c.from.result 0 = c.index_mut.ensures.value ∙ get_or_default table c.from.result c.index_mut.result.now 0 (omega (arith, below, long)) in
    let few : c.index_mut.result.now < c.args.steps = count_fits (state_of c.args.machine.now) c.loop.counter c.args.steps c.from.result c.index_mut.result.now table c.loop-test.true below value c.loop.invariant.times in
    omega (arith, few, c.requires)

pub returns-then-is_last-clause-counts : goal.returns-then-is_last-clause-counts
returns-then-is_last-clause-counts c =
    let s = state_of c.args.machine.now in
    let now = state_of c.loop.machine in
    let i = c.loop.counter in
    let table = c.loop.counts.items in
    let long : length table ≡ 65536 = omega (arith, c.loop.invariant.length) in
    let below : c.from.result < 65536 = omega (arith, c.from.ensures, c.pc.type_inv) in
    let value : c.index_mut.result.now ≡ get_or table c.from.result 0 = c.index_mut.ensures.value ∙ get_or_default table c.from.result c.index_mut.result.now 0 (omega (arith, below, long)) in
    let more = one_counted s now i c.from.result c.index_mut.result.now table long (c.from.ensures ∙ c.pc.ensures) below value c.loop.invariant.stands c.loop.invariant.runs c.loop.invariant.times in
    all_counted s i c.args.steps _ c.loop-test.true
    (last_step s now i true _ c.loop.invariant.stands c.loop.invariant.runs c.step.ensures.event (c.if-is_last.ensures (state_of c.step.new.self)))
    more

pub loop-preserved : goal.loop-preserved
loop-preserved c =
    let s = state_of c.args.machine.now in
    let now = state_of c.loop.machine in
    let i = c.loop.counter in
    let table = c.loop.counts.items in
    let long : length table ≡ 65536 = omega (arith, c.loop.invariant.length) in
    let below : c.from.result < 65536 = omega (arith, c.from.ensures, c.pc.type_inv) in
    let value : c.index_mut.result.now ≡ get_or table c.from.result 0 = c.index_mut.ensures.value ∙ get_or_default table c.from.result c.index_mut.result.now 0 (omega (arith, below, long)) in
    record {
      length = c.loop.invariant.length;
      stands = one_behind s now (state_of c.step.new.self) i c.loop.invariant.stands c.step.ensures.state;
      runs = last_step s now i false _ c.loop.invariant.stands c.loop.invariant.runs c.step.ensures.event (c.if-is_last.ensures (state_of c.step.new.self));
      times = one_counted s now i c.from.result c.index_mut.result.now table long (c.from.ensures ∙ c.pc.ensures) below value c.loop.invariant.stands c.loop.invariant.runs c.loop.invariant.times;
    }

pub returns-clause-counts : goal.returns-clause-counts
returns-clause-counts c =
    let same : c.loop.counter ≡ c.args.steps = omega (arith, c.loop-test.false, c.loop.auto) in
    λ place fits. c.loop.invariant.times place fits ∙ ap (λ n. times_at (state_of c.args.machine.now) n place) same
