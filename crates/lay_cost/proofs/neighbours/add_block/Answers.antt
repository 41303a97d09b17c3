-- One more access: a pair with the last one of the set, where it is of the set itself.
use Rattle.std.proofs.Common.{◌≡◌, ◌<◌, length, get_or, take, filter, true, false, ap, sym, subst, ◌∙◌}
use Rattle.std.specs.Prelude.{ℕ, List, IfSome, Option, None}
use Rattle.std.specs.List.{last_or}
use Rattle.lay_cost.specs.Restricted.{in_bits}
use Rattle.lay_cost.specs.Memory.{HasBlock, HasNext}
use Rattle.lay_cost.proofs.Pairs.{small_so_far, kept_so_far_le, more_pairs, same_pairs, last_taken, left_out}
use Rattle.lay_cost.proofs.neighbours.add_block.Goals as goal
use Rattle.lay_cost.proofs.neighbours.add_block.Goals.{then-is_in, else-is_in}

pub add_next-requires-clause-room : goal.add_next-requires-clause-room
add_next-requires-clause-room c = small_so_far c.args.weights.now c.loop-scalar.weights (filter (in_bits c.args.set) (take c.loop-scalar.scalar-index c.args.accesses.now)) c.args.weight (length c.args.accesses.now) c.requires.room c.loop-scalar.invariant.so_far (kept_so_far_le (in_bits c.args.set) c.args.accesses.now c.loop-scalar.scalar-index) c.requires.counted

pub loop-scalar-preserved : goal.loop-scalar-preserved
loop-scalar-preserved c =
    let xs = c.args.accesses.now in
    let i = c.loop-scalar.scalar-index in
    let set = in_bits c.args.set in
    let lt : i < length xs = c.loop-scalar-test.true in
    elim c.if-is_in.branch [
      | then-is_in w ↦
          let e : set (get_or xs i 0) ≡ true = sym c.is_in.ensures ∙ w.if-is_in.true in
          let below = λ (o : Option ℕ). IfSome o (λ s. s < 64) in
          let next = λ (now : List ℕ). HasNext c.loop-scalar.weights now c.loop-scalar.last (get_or xs i 0) c.args.weight in
          record {
            last = w.last-is ∙ last_taken set xs i 0 lt e;
            small = subst below (sym w.last-is) (c.requires.scalars i 0 lt);
            so_far = more_pairs set xs i 0 c.args.weights.now c.loop-scalar.weights c.if-is_in.weights c.loop-scalar.last c.args.weight lt e c.loop-scalar.invariant.last c.loop-scalar.invariant.so_far (subst next (sym w.weights-is) w.add_next.ensures);
          }
      | else-is_in w ↦
          let e : set (get_or xs i 0) ≡ false = sym c.is_in.ensures ∙ w.if-is_in.false in
          let below = λ (o : Option ℕ). IfSome o (λ s. s < 64) in
          let block = λ (now : List ℕ). HasBlock c.args.weights.now now (filter set (take i xs)) c.args.weight in
          record {
            last = w.last-is ∙ c.loop-scalar.invariant.last ∙ sym (ap (last_or None) (left_out set xs i 0 lt e));
            small = subst below (sym w.last-is) c.loop-scalar.invariant.small;
            so_far = same_pairs set xs i 0 c.args.weights.now c.if-is_in.weights c.args.weight lt e (subst block (sym w.weights-is) c.loop-scalar.invariant.so_far);
          }
    ]
