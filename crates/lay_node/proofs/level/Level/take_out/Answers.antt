-- One more scalar that isn't placed, or not.
use Rattle.std.proofs.Common.{◌≡◌, ℕ, List, length, ◌<◌, ◌+◌, true, false, ap, ap₂, sym, subst, ◌∙◌, arith}
use Rattle.std.specs.Prelude.{slice_index}
use Rattle.std.proofs.lemmas.List.{length-set}
use Rattle.std.proofs.lemmas.Grind.{common_steps}
use Rattle.lay_node.specs.declared.level.Level.{Level}
use Rattle.lay_node.specs.Levels.{is_free, free_below, greatest_among}
use Rattle.lay_node.proofs.Ranges.{sum_free_next, sum_free_skip, sum_free_fits}
use Rattle.lay_node.proofs.Steps.{next_greatest, skip_greatest, next_others, skip_others}
use Rattle.lay_node.proofs.level.Level.take_out.Goals as goal
use Rattle.lay_node.proofs.level.Level.take_out.Goals.{then-not-placed-from, else-not-placed-from}

pub overflow_add-sum : goal.overflow_add-sum
overflow_add-sum c =
    let placed = c.args.placed.now in
    let free : is_free placed c.loop-other.other ≡ true = grind (arith, common_steps) in
    let f = greatest_among c.args.self.now.weights (free_below placed c.args.scalars) in
    let is : c.without-sum.result ≡ f c.loop-other.other = c.without-sum.ensures.greatest ∙ ap (λ t. greatest_among t (free_below placed c.args.scalars) c.loop-other.other) c.loop-other.invariant.weights in
    omega (arith, sum_free_fits f placed c.loop-other.other c.args.scalars c.loop-other-test.true free, is, c.loop-other.invariant.sum, c.requires.fits)

pub loop-other-preserved : goal.loop-other-preserved
loop-other-preserved c =
    let placed = c.args.placed.now in
    let other = c.loop-other.other in
    let old = c.args.self.now.greatest in
    let gs = c.loop-other.self.greatest in
    let f = greatest_among c.args.self.now.weights (free_below placed c.args.scalars) in
    let holds = λ (ns : List ℕ). (s : ℕ) → s < other + 1 → is_free placed s ≡ true → slice_index ns s ≡ f s in
    let stays = λ (ns : List ℕ). (s : ℕ) → (s < other + 1 → is_free placed s ≡ false) → slice_index ns s ≡ slice_index old s in
    elim c.if-not-placed-from.branch [
      | then-not-placed-from w ↦
          let free : is_free placed other ≡ true = grind (arith, common_steps) in
          let is : w.without-sum.result ≡ f other = w.without-sum.ensures.greatest ∙ ap (λ t. greatest_among t (free_below placed c.args.scalars) other) c.loop-other.invariant.weights in
          let short : other < length gs = omega (arith, c.loop-other.invariant.size, c.loop-other-test.true, c.requires.few) in
          let made = ap (λ (l : Level). l.greatest) w.self-is ∙ w.without-sum.ensures.kept in
          record {
            size = ap length made ∙ length-set gs other w.without-sum.result ∙ c.loop-other.invariant.size;
            weights = ap (λ (l : Level). l.weights) w.self-is ∙ w.without-sum.ensures.weights ∙ c.loop-other.invariant.weights;
            greatest = subst holds (sym made) (next_greatest gs f (is_free placed) other w.without-sum.result short is c.loop-other.invariant.greatest);
            others = subst stays (sym made) (next_others old gs (is_free placed) other w.without-sum.result free c.loop-other.invariant.others);
            sum = w.sum-is ∙ ap₂ (λ a b. a + b) c.loop-other.invariant.sum is ∙ sym (sum_free_next f placed other free);
          }
      | else-not-placed-from w ↦
          let taken : is_free placed other ≡ false = grind (arith, common_steps) in
          let same = ap (λ (l : Level). l.greatest) w.self-is in
          record {
            size = ap length same ∙ c.loop-other.invariant.size;
            weights = ap (λ (l : Level). l.weights) w.self-is ∙ c.loop-other.invariant.weights;
            greatest = subst holds (sym same) (skip_greatest gs f (is_free placed) other taken c.loop-other.invariant.greatest);
            others = subst stays (sym same) (skip_others old gs (is_free placed) other c.loop-other.invariant.others);
            sum = w.sum-is ∙ c.loop-other.invariant.sum ∙ sym (sum_free_skip f placed other taken);
          }
    ]
