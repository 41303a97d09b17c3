-- Objects and their lists.
use Rattle.std.specs.Prelude.{◌≤◌, length}
use Rattle.c_tree.specs.TypedTree.{ObjectTree}

-- an object has room for its list
abbrev pub HasRoom : ObjectTree → Type 0
HasRoom o = length o.initial ≤ o.length
