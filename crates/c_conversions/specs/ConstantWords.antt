-- The words that constants have.
use Rattle.std.specs.Prelude.{ℕ, Option, Some, None}
use Rattle.c_tree.specs.TypedTree.{Kind}

-- a word of a type, of which void has none
abbrev pub valued : Kind → Option ℕ → Option ℕ
valued None word = None
valued (Some kind) word = word
