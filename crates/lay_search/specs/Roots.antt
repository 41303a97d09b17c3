-- The root of the tree.
use Rattle.std.specs.Prelude.{◌≡◌}
use Rattle.lay_model.specs.Sequences.{Sequence}
use Rattle.lay_tree.specs.Tree.{root}
use Rattle.lay_node.specs.Numbers.{kept_in}
use Rattle.lay_node.specs.Positions.{here, IsAt}
use Rattle.lay_search.specs.declared.root.Root.{Root}

-- a position is at the root, and what its children need is known
pub record IsRoot (seq : Sequence) (r : Root) : Type 0 where
  pub place : IsAt seq r.position
  pub nothing : here r.position ≡ root
  pub numbers : r.kept ≡ kept_in r.position.registers seq root
