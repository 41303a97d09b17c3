-- Complete nodes.
use Rattle.std.proofs.Common.{◌≡◌, ℕ, ◌<◌, true, false, [], ◌∷◌, arith, length-append}
use Rattle.std.specs.List.{concat}
use Rattle.lay_model.specs.Sequences.{Sequence}
use Rattle.lay_model.specs.Arrangements.{Arranges}
use Rattle.lay_cost.specs.Placements.{has}
use Rattle.lay_cost.specs.Parts.{node_lists}
use Rattle.lay_tree.specs.Tree.{with_scalar, is_complete}
use Rattle.lay_node.specs.declared.position.Position.{Position}
use Rattle.lay_node.specs.Positions.{here, IsAt}
use Rattle.lay_node.proofs.Proper.{complete_arranges}
use Rattle.lay_node.proofs.Descending.{proper_child}

pub child_arranges : (seq : Sequence) (d : Position) (s : ℕ) → IsAt seq d → s < seq.scalars → has (concat (node_lists (here d))) s ≡ false → is_complete seq (with_scalar (here d) s) ≡ true → Arranges seq.scalars (node_lists (with_scalar (here d) s))
child_arranges seq d s at_it below lacks complete = complete_arranges seq (with_scalar (here d) s) at_it.sequence.few (proper_child seq d s at_it below lacks) at_it.closed (omega (arith, length-append (here d).open_list (s ∷ []))) complete
