-- What is left shows what all show.
use Rattle.std.proofs.Common.{◌≡◌, drop, [], ◌∷◌}
use Rattle.lay_tree.specs.declared.answer.Mark.TheVariants.{Branched}
use Rattle.lay_search.specs.Openings.{outcome_of}
use Rattle.lay_search.proofs.closing.read_ends.Given as goal

abbrev pub invariant-loop-end : goal.invariant-loop-end
invariant-loop-end l = record {
  piece : l.piece ≡ l.end-index;
  so_far : outcome_of l.marks.items l.piece (drop l.end-index l.ends) ≡ outcome_of (Branched ∷ []) 0 l.ends;
}
