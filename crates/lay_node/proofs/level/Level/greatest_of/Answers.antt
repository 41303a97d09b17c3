-- One more scalar that isn't placed, or not.
use Rattle.std.proofs.Common.{◌≡◌, true, false, ap₂, sym, ◌∙◌, max, arith}
use Rattle.std.proofs.lemmas.Grind.{common_steps}
use Rattle.lay_node.specs.Levels.{is_free}
use Rattle.lay_node.proofs.Ranges.{greatest_next, greatest_skip}
use Rattle.lay_node.proofs.level.Level.greatest_of.Goals as goal
use Rattle.lay_node.proofs.level.Level.greatest_of.Goals.{then-not-placed-from, else-not-placed-from}

pub loop-other-preserved : goal.loop-other-preserved
loop-other-preserved c =
    let table = c.args.self.now.weights in
    let placed = c.args.placed.now in
    let other = c.loop-other.other in
    elim c.if-not-placed-from.branch [
      | then-not-placed-from w ↦
          let free : is_free placed other ≡ true = grind (arith, common_steps) in
          w.greatest-is ∙ w.larger-greatest.ensures ∙ ap₂ max c.loop-other.invariant w.at.ensures ∙ sym (greatest_next table placed c.args.scalar other free)
      | else-not-placed-from w ↦
          let taken : is_free placed other ≡ false = grind (arith, common_steps) in
          w.greatest-is ∙ c.loop-other.invariant ∙ sym (greatest_skip table placed c.args.scalar other taken)
    ]
