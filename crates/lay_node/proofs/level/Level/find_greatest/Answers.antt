-- One more scalar that isn't placed, or not.
use Rattle.std.proofs.Common.{◌≡◌, ℕ, List, length, ◌<◌, ◌+◌, true, false, ap, ap₂, sym, subst, ◌∙◌, arith}
use Rattle.std.specs.Prelude.{slice_index}
use Rattle.std.proofs.lemmas.Grind.{common_steps}
use Rattle.lay_node.specs.declared.level.Level.{Level}
use Rattle.lay_node.specs.Levels.{is_free, free_below, greatest_among}
use Rattle.lay_node.proofs.Ranges.{sum_free_next, sum_free_skip, sum_free_fits}
use Rattle.lay_node.proofs.Steps.{next_greatest, skip_greatest}
use Rattle.lay_node.proofs.level.Level.find_greatest.Goals as goal
use Rattle.lay_node.proofs.level.Level.find_greatest.Goals.{then-not-placed-from, else-not-placed-from}

pub overflow_add-sum : goal.overflow_add-sum
overflow_add-sum c =
    let placed = c.args.placed.now in
    let free : is_free placed c.loop-scalar.scalar ≡ true = grind (arith, common_steps) in
    let f = greatest_among c.args.self.now.weights (free_below placed c.args.scalars) in
    let is : c.greatest_of-greatest.result ≡ f c.loop-scalar.scalar = c.greatest_of-greatest.ensures ∙ ap (λ t. greatest_among t (free_below placed c.args.scalars) c.loop-scalar.scalar) c.loop-scalar.invariant.weights in
    omega (arith, sum_free_fits f placed c.loop-scalar.scalar c.args.scalars c.loop-scalar-test.true free, is, c.loop-scalar.invariant.sum, c.requires.fits)

pub loop-scalar-preserved : goal.loop-scalar-preserved
loop-scalar-preserved c =
    let placed = c.args.placed.now in
    let scalar = c.loop-scalar.scalar in
    let f = greatest_among c.args.self.now.weights (free_below placed c.args.scalars) in
    let holds = λ (gs : List ℕ). (s : ℕ) → s < scalar + 1 → is_free placed s ≡ true → slice_index gs s ≡ f s in
    elim c.if-not-placed-from.branch [
      | then-not-placed-from w ↦
          let free : is_free placed scalar ≡ true = grind (arith, common_steps) in
          let is : w.greatest_of-greatest.result ≡ f scalar = w.greatest_of-greatest.ensures ∙ ap (λ t. greatest_among t (free_below placed c.args.scalars) scalar) c.loop-scalar.invariant.weights in
          let short : scalar < length c.loop-scalar.self.greatest = grind (arith, common_steps) in
          record {
            weights = ap (λ (l : Level). l.weights) w.self-is ∙ c.loop-scalar.invariant.weights;
            greatest = subst holds (sym (ap (λ (l : Level). l.greatest) w.self-is)) (rw w.from-then-not-placed-from.ensures (next_greatest c.loop-scalar.self.greatest f (is_free placed) scalar w.greatest_of-greatest.result short is c.loop-scalar.invariant.greatest));
            sum = w.sum-is ∙ ap₂ (λ a b. a + b) c.loop-scalar.invariant.sum is ∙ sym (sum_free_next f placed scalar free);
          }
      | else-not-placed-from w ↦
          let taken : is_free placed scalar ≡ false = grind (arith, common_steps) in
          record {
            weights = ap (λ (l : Level). l.weights) w.self-is ∙ c.loop-scalar.invariant.weights;
            greatest = subst holds (sym (ap (λ (l : Level). l.greatest) w.self-is)) (skip_greatest c.loop-scalar.self.greatest f (is_free placed) scalar taken c.loop-scalar.invariant.greatest);
            sum = w.sum-is ∙ c.loop-scalar.invariant.sum ∙ sym (sum_free_skip f placed scalar taken);
          }
    ]
