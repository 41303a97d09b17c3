-- What the child has more, and what its scalars can save less, where these numbers are kept.
use Rattle.std.proofs.Common.{true, false, ap, ap₂, ◌∙◌, arith}
use Rattle.std.specs.Prelude.{slice_index}
use Rattle.lay_cost.specs.Weights.{weight_at}
use Rattle.lay_node.specs.declared.kept.Kept.{Kept}
use Rattle.lay_node.specs.declared.level.Level.{Level}
use Rattle.lay_node.specs.Levels.{beside_last}
use Rattle.lay_node.specs.Numbers.{next_kept}
use Rattle.lay_node.specs.Positions.{here}
use Rattle.lay_node.proofs.Needs.{weights_below, no_weights_above, greatest_of_may_close}
use Rattle.lay_node.proofs.Descending.{level_got}
use Rattle.lay_node.proofs.Walking.{child_facts}
use Rattle.lay_node.proofs.position.Position.child_of.Goals as goal

pub with_scalar-requires-clause-unplaced : goal.with_scalar-requires-clause-unplaced
with_scalar-requires-clause-unplaced c = (child_facts c.args.seq.now c.args.self.now c.args.scalar c.args.kept c.requires.place c.requires.kept c.requires.scalar c.requires.unplaced).unplaced

pub returns-then-step-gt1 : goal.returns-then-step-gt1
returns-then-step-gt1 c =
    let none = no_weights_above c.args.seq.now (omega (arith, c.step.ensures, c.if-step-gt1.true)) in
    c.with_scalar.ensures ∙ (child_facts c.args.seq.now c.args.self.now c.args.scalar c.args.kept c.requires.place c.requires.kept c.requires.scalar c.requires.unplaced).without none

pub beside-beside-requires-clause-last : goal.beside-beside-requires-clause-last
beside-beside-requires-clause-last c = (child_facts c.args.seq.now c.args.self.now c.args.scalar c.args.kept c.requires.place c.requires.kept c.requires.scalar c.requires.unplaced).last

pub with_scalar-requires-then-may_close-clause-unplaced : goal.with_scalar-requires-then-may_close-clause-unplaced
with_scalar-requires-then-may_close-clause-unplaced c = (child_facts c.args.seq.now c.args.self.now c.args.scalar c.args.kept c.requires.place c.requires.kept c.requires.scalar c.requires.unplaced).unplaced

pub with_scalar-requires-else-may_close-clause-unplaced : goal.with_scalar-requires-else-may_close-clause-unplaced
with_scalar-requires-else-may_close-clause-unplaced c = (child_facts c.args.seq.now c.args.self.now c.args.scalar c.args.kept c.requires.place c.requires.kept c.requires.scalar c.requires.unplaced).unplaced

pub with_scalar-requires-then-may_close-clause-saved : goal.with_scalar-requires-then-may_close-clause-saved
with_scalar-requires-then-may_close-clause-saved c =
    let facts = child_facts c.args.seq.now c.args.self.now c.args.scalar c.args.kept c.requires.place c.requires.kept c.requires.scalar c.requires.unplaced in
    let level = level_got c.args.self.now.levels.items c.from.result c.args.kept.closes c.index-level.result.now c.index-level.ensures c.from.ensures facts.level in
    let some = weights_below c.args.seq.now (omega (arith, c.step.ensures, c.if-step-gt1.false, c.requires.place.sequence.moves)) in
    omega (arith, facts.saved some, c.beside-beside.ensures ∙ ap (λ (l : Level). beside_last (weight_at l.weights) c.args.kept.last c.args.scalar) level)

pub with_scalar-requires-else-may_close-clause-saved : goal.with_scalar-requires-else-may_close-clause-saved
with_scalar-requires-else-may_close-clause-saved c =
    let facts = child_facts c.args.seq.now c.args.self.now c.args.scalar c.args.kept c.requires.place c.requires.kept c.requires.scalar c.requires.unplaced in
    let level = level_got c.args.self.now.levels.items c.from.result c.args.kept.closes c.index-level.result.now c.index-level.ensures c.from.ensures facts.level in
    let some = weights_below c.args.seq.now (omega (arith, c.step.ensures, c.if-step-gt1.false, c.requires.place.sequence.moves)) in
    omega (arith, facts.saved some, c.beside-beside.ensures ∙ ap (λ (l : Level). beside_last (weight_at l.weights) c.args.kept.last c.args.scalar) level)

pub with_scalar-requires-else-may_close-clause-greatest : goal.with_scalar-requires-else-may_close-clause-greatest
with_scalar-requires-else-may_close-clause-greatest c =
    let facts = child_facts c.args.seq.now c.args.self.now c.args.scalar c.args.kept c.requires.place c.requires.kept c.requires.scalar c.requires.unplaced in
    let level = level_got c.args.self.now.levels.items c.from.result c.args.kept.closes c.index-level.result.now c.index-level.ensures c.from.ensures facts.level in
    let some = weights_below c.args.seq.now (omega (arith, c.step.ensures, c.if-step-gt1.false, c.requires.place.sequence.moves)) in
    let ranks = greatest_of_may_close c.args.self.now.registers c.args.seq.now (here c.args.self.now) c.args.kept c.may_close.result false some (ap (λ (k : Kept). k.closes) c.requires.kept) c.may_close.ensures c.if-may_close.false in
    omega (arith, facts.greatest ranks, c.greatest.ensures ∙ ap (λ (l : Level). slice_index l.greatest c.args.scalar) level)

pub returns-then-may_close : goal.returns-then-may_close
returns-then-may_close c =
    let facts = child_facts c.args.seq.now c.args.self.now c.args.scalar c.args.kept c.requires.place c.requires.kept c.requires.scalar c.requires.unplaced in
    let level = level_got c.args.self.now.levels.items c.from.result c.args.kept.closes c.index-level.result.now c.index-level.ensures c.from.ensures facts.level in
    let some = weights_below c.args.seq.now (omega (arith, c.step.ensures, c.if-step-gt1.false, c.requires.place.sequence.moves)) in
    let none = greatest_of_may_close c.args.self.now.registers c.args.seq.now (here c.args.self.now) c.args.kept c.may_close.result true some (ap (λ (k : Kept). k.closes) c.requires.kept) c.may_close.ensures c.if-may_close.true in
    c.with_scalar-then-may_close.ensures ∙ ap (λ b. next_kept c.args.kept c.args.scalar b 0) (c.beside-beside.ensures ∙ ap (λ (l : Level). beside_last (weight_at l.weights) c.args.kept.last c.args.scalar) level) ∙ facts.costs some none

pub returns-else-may_close : goal.returns-else-may_close
returns-else-may_close c =
    let facts = child_facts c.args.seq.now c.args.self.now c.args.scalar c.args.kept c.requires.place c.requires.kept c.requires.scalar c.requires.unplaced in
    let level = level_got c.args.self.now.levels.items c.from.result c.args.kept.closes c.index-level.result.now c.index-level.ensures c.from.ensures facts.level in
    let some = weights_below c.args.seq.now (omega (arith, c.step.ensures, c.if-step-gt1.false, c.requires.place.sequence.moves)) in
    let ranks = greatest_of_may_close c.args.self.now.registers c.args.seq.now (here c.args.self.now) c.args.kept c.may_close.result false some (ap (λ (k : Kept). k.closes) c.requires.kept) c.may_close.ensures c.if-may_close.false in
    c.with_scalar-else-may_close.ensures ∙ ap₂ (next_kept c.args.kept c.args.scalar) (c.beside-beside.ensures ∙ ap (λ (l : Level). beside_last (weight_at l.weights) c.args.kept.last c.args.scalar) level) (c.greatest.ensures ∙ ap (λ (l : Level). slice_index l.greatest c.args.scalar) level) ∙ facts.bounds ranks
