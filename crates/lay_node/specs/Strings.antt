-- The node of a string of scalars and closes.
use Rattle.std.specs.Prelude.{ℕ, ◌==◌, List, fold, if◌then◌else◌}
use Rattle.lay_cost.specs.Parts.{Node, close}
use Rattle.lay_tree.specs.Tree.{root, with_scalar, with_close}

abbrev pub with_sign : Node → ℕ → Node
with_sign n sign = if sign == close then with_close n else with_scalar n sign

abbrev pub node_of : List ℕ → Node
node_of string = fold with_sign root string
