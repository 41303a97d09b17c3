-- The greatest weights of one level change, where the scalar was the one that a scalar is beside most often.
use Rattle.std.proofs.Common.{◌≡◌, ◌<◌, length, true, false, refl, ap, sym, subst, ◌∙◌, arith, get_or}
use Rattle.std.proofs.lemmas.Bool.{both_ways}
use Rattle.std.proofs.lemmas.List.{length-set, get_or_default}
use Rattle.std.specs.Prelude.{slice_index, slice_set, sum_by}
use Rattle.std.specs.Vec.{with_item}
use Rattle.lay_tree.specs.Tree.{with_scalar, unplaced}
use Rattle.lay_node.specs.declared.kept.Kept.{Kept}
use Rattle.lay_node.specs.declared.level.Level.{Level}
use Rattle.lay_node.specs.declared.position.Position.{Position}
use Rattle.lay_node.specs.Levels.{free_below, greatest_in_all, HasGreatest}
use Rattle.lay_node.specs.Numbers.{kept_in, most_beside}
use Rattle.lay_node.specs.Positions.{no_level, level_at, here, greatest_needed, IsAt}
use Rattle.lay_node.proofs.Proper.{found_small}
use Rattle.lay_node.proofs.Needs.{greatest_of_loads, greatest_weigh, all_found}
use Rattle.lay_node.proofs.Descending.{level_set_same, level_set_other, placed_child, enter_greatest, enter_sum, entered_level, entered_at, child_here, proper_child, regrown, grown_without}
use Rattle.lay_node.proofs.Rooms.{room_to_enter}
use Rattle.lay_node.proofs.position.Position.enter.Goals as goal

pub push-requires : goal.push-requires
push-requires c = (omega arith, room_to_enter c.args.seq.now c.args.self.now c.args.scalar c.requires.place c.requires.scalar c.requires.unplaced)

pub take_out-greatest-requires-clause-greatest : goal.take_out-greatest-requires-clause-greatest
take_out-greatest-requires-clause-greatest c =
    let ranks = greatest_of_loads c.args.self.now.registers c.args.seq.now (here c.args.self.now) c.args.child c.bounds_by_loads.result false (ap (λ (k : Kept). k.closes) c.requires.child) c.bounds_by_loads.ensures c.if-bounds_by_loads.false in
    let d = c.args.self.now in
    let at_it = c.requires.place in
    let closes = length (here d).closed in
    let lt : closes < length d.levels.items = omega (arith, at_it.registers, at_it.levels) in
    let at : c.from-2.result ≡ closes = c.from-2.ensures ∙ ap (λ (k : Kept). k.closes) c.requires.child in
    let before : c.index_mut.result.now ≡ level_at d.levels.items closes = c.index_mut.ensures.value ∙ ap (λ i. get_or d.levels.items i c.index_mut.result.now) at ∙ get_or_default d.levels.items closes c.index_mut.result.now no_level lt in
    let short : c.args.scalar < length d.placed = omega (arith, at_it.size, c.requires.scalar, at_it.sequence.few) in
    rw (before, c.from.ensures, c.scalars.ensures.scalars) (λ u less free. enter_greatest c.args.seq.now (here d) (level_at d.levels.items closes) d.placed c.args.scalar u at_it.sequence.few (all_found d.registers c.args.seq.now (here d) (level_at d.levels.items closes) ranks at_it.level) at_it.placed short c.requires.scalar c.requires.unplaced less free)

pub take_out-greatest-requires-clause-fits : goal.take_out-greatest-requires-clause-fits
take_out-greatest-requires-clause-fits c =
    let d = c.args.self.now in
    let seq = c.args.seq.now in
    let ranks = greatest_of_loads d.registers seq (here d) c.args.child c.bounds_by_loads.result false (ap (λ (k : Kept). k.closes) c.requires.child) c.bounds_by_loads.ensures c.if-bounds_by_loads.false in
    let at_it = c.requires.place in
    let closes = length (here d).closed in
    let lt : closes < length d.levels.items = omega (arith, at_it.registers, at_it.levels) in
    let at : c.from-2.result ≡ closes = c.from-2.ensures ∙ ap (λ (k : Kept). k.closes) c.requires.child in
    let before : c.index_mut.result.now ≡ level_at d.levels.items closes = c.index_mut.ensures.value ∙ ap (λ i. get_or d.levels.items i c.index_mut.result.now) at ∙ get_or_default d.levels.items closes c.index_mut.result.now no_level lt in
    let short : c.args.scalar < length d.placed = omega (arith, at_it.size, c.requires.scalar, at_it.sequence.few) in
    let sum = enter_sum seq (here d) (level_at d.levels.items closes).weights d.placed c.args.scalar at_it.sequence.few (at_it.level.weights (greatest_weigh d.registers seq (here d) ranks)) at_it.placed short in
    let small = found_small true true seq (with_scalar (here d) c.args.scalar) at_it.sequence (proper_child seq d c.args.scalar at_it c.requires.scalar c.requires.unplaced) in
    rw (before, c.from.ensures, c.scalars.ensures.scalars) (omega (arith, sum, small.greatest))

pub returns-then-bounds_by_loads : goal.returns-then-bounds_by_loads
returns-then-bounds_by_loads c =
    let d = c.args.self.now in
    let seq = c.args.seq.now in
    let s = c.args.scalar in
    let at_it = c.requires.place in
    let none = greatest_of_loads d.registers seq (here d) c.args.child c.bounds_by_loads.result true (ap (λ (k : Kept). k.closes) c.requires.child) c.bounds_by_loads.ensures c.if-bounds_by_loads.true in
    let placed = ap (λ i. slice_set d.placed i true) c.from.ensures in
    let new : Position = record { registers = d.registers; string = c.push.new.self; placed = slice_set d.placed c.from.result true; outside = d.outside; levels = d.levels } in
    let pushed = c.push.ensures.items in
    let level = entered_level seq d (level_at d.levels.items (length (here d).closed)) s at_it c.requires.scalar refl (λ ranks. absurd (both_ways (greatest_needed seq d) none ranks)) in
    let e = child_here seq d new s at_it c.requires.scalar pushed in
    record {
      at_child = entered_at seq d new s at_it c.requires.scalar c.requires.unplaced refl pushed placed refl refl level;
      string = pushed;
      kept = c.requires.child ∙ grown_without d.registers seq (with_scalar (here d) s) none ∙ ap (kept_in d.registers seq) (sym e);
      registers = refl;
      outside = refl;
      placed = placed;
      count = refl;
      lower = λ i less. refl;
      weights = refl;
      others = λ u h. refl;
      same = λ _. refl;
    }

pub returns : goal.returns
returns c =
    let d = c.args.self.now in
    let seq = c.args.seq.now in
    let s = c.args.scalar in
    let at_it = c.requires.place in
    let ls = d.levels.items in
    let closes = length (here d).closed in
    let lt : closes < length ls = omega (arith, at_it.registers, at_it.levels) in
    let at : c.from-2.result ≡ closes = c.from-2.ensures ∙ ap (λ (k : Kept). k.closes) c.requires.child in
    let before : c.index_mut.result.now ≡ level_at ls closes = c.index_mut.ensures.value ∙ ap (λ i. get_or ls i c.index_mut.result.now) at ∙ get_or_default ls closes c.index_mut.result.now no_level lt in
    let l = c.take_out-greatest.new.self in
    let after : level_at (slice_set ls c.from-2.result l) closes ≡ l = ap (λ i. level_at (slice_set ls i l) closes) at ∙ level_set_same ls closes l lt in
    let weights = ap (λ (x : Level). x.weights) after ∙ c.take_out-greatest.ensures.weights ∙ ap (λ (x : Level). x.weights) before in
    let placed = ap (λ i. slice_set d.placed i true) c.from.ensures in
    let scalars = c.scalars.ensures.scalars in
    let ranks = greatest_of_loads d.registers seq (here d) c.args.child c.bounds_by_loads.result false (ap (λ (k : Kept). k.closes) c.requires.child) c.bounds_by_loads.ensures c.if-bounds_by_loads.false in
    let greatest = subst (λ (x : Level). HasGreatest x.weights x.greatest (slice_set d.placed s true) seq.scalars) (sym after) (rw (c.from.ensures, scalars) at c.take_out-greatest.ensures.greatest) in
    let new : Position = record { registers = d.registers; string = c.push.new.self; placed = slice_set d.placed c.from.result true; outside = d.outside; levels = with_item d.levels c.from-2.result l } in
    let pushed = c.push.ensures.items in
    let there : IsAt seq new = entered_at seq d new s at_it c.requires.scalar c.requires.unplaced refl pushed placed refl (length-set ls c.from-2.result l) (entered_level seq d (level_at (slice_set ls c.from-2.result l) closes) s at_it c.requires.scalar weights (λ _. greatest)) in
    let short : s < length d.placed = omega (arith, at_it.size, c.requires.scalar, at_it.sequence.few) in
    let child = placed_child seq (here d) d.placed s at_it.placed short in
    let e = child_here seq d new s at_it c.requires.scalar pushed in
    let table = level_at ls closes in
    let sum : c.take_out-greatest.result ≡ sum_by (most_beside seq (with_scalar (here d) s)) (unplaced seq (with_scalar (here d) s)) = (rw (c.from.ensures, scalars) at c.take_out-greatest.ensures.sum) ∙ ap (λ t. greatest_in_all t (free_below (slice_set d.placed s true) seq.scalars)) (c.take_out-greatest.ensures.weights ∙ ap (λ (x : Level). x.weights) before) ∙ enter_sum seq (here d) table.weights d.placed s at_it.sequence.few (at_it.level.weights (greatest_weigh d.registers seq (here d) ranks)) at_it.placed short in
    record {
      at_child = there;
      string = pushed;
      kept = regrown d.registers seq (with_scalar (here d) s) c.args.child c.take_out-greatest.result ranks c.requires.child sum ∙ ap (kept_in d.registers seq) (sym e);
      registers = refl;
      outside = refl;
      placed = placed;
      count = length-set ls c.from-2.result l;
      lower = λ i less. level_set_other ls c.from-2.result i l (λ same. absurd (omega (arith, same, less, at)));
      weights = weights;
      others = λ u h. ap (λ (x : Level). slice_index x.greatest u) after ∙ c.take_out-greatest.ensures.others u (λ less. h (subst (λ n. u < n) scalars less)) ∙ ap (λ (x : Level). slice_index x.greatest u) before;
      same = λ none. absurd (both_ways (greatest_needed seq d) none ranks);
    }
