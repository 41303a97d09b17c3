-- How many words static objects take (docs/LAYOUT.md, "Data memory").
use Rattle.std.specs.Prelude.{ℕ, ◌+◌, List, sum_by}
use Rattle.c_tree.specs.TypedTree.{ObjectTree}

-- the words of static objects, each with its spare word
abbrev pub static_words : List ObjectTree → ℕ
static_words os = sum_by (λ o. o.length + 1) os
