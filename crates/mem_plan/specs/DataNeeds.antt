-- How many words of data memory objects and functions need (docs/LAYOUT.md, "Data memory").
use Rattle.std.specs.Prelude.{ℕ, ◌+◌, ◌^◌, Bool, true, false, ◌||◌, if◌then◌else◌, List, [], ◌∷◌, slice_get, Option, Some, None}
use Rattle.c_tree.specs.TypedTree.{ObjectTree}
use Rattle.mem_plan.specs.declared.needs.FunctionNeeds.{FunctionNeeds}
use Rattle.c_tree.specs.Uses.{called}
use Rattle.tree_code.specs.WordTree.{FunctionCode}
use Rattle.tree_code.specs.WordHelpers.{uses_helper}
use Rattle.tree_code.specs.WordUses.{word_statement_uses}

-- an object has one spare word behind it
abbrev pub object_words : ObjectTree → ℕ
object_words o = o.length + 1

abbrev pub objects_words : List ObjectTree → ℕ
objects_words [] = 0
objects_words (o ∷ os) = object_words o + objects_words os

-- the functions that a function calls
abbrev pub callees : FunctionCode → List ℕ
callees f = called (word_statement_uses f.body)

abbrev pub has_any : List ℕ → Bool
has_any [] = false
has_any (n ∷ ns) = true

-- a function keeps where it returns to in a word of its own where it calls a function or uses a routine
abbrev pub has_return_word : FunctionCode → Bool
has_return_word f = has_any (callees f) || uses_helper f.body

abbrev pub return_words : Bool → ℕ
return_words back = if back then 1 else 0

-- the words of a function's frame: its scalars, its local objects and its return word
abbrev pub own : FunctionCode → ℕ
own f = f.scalars + (objects_words f.locals + return_words (has_return_word f))

abbrev pub own_of : Option FunctionCode → ℕ
own_of None = 0
own_of (Some f) = own f

-- those of a function by its number
abbrev pub own_at : List FunctionCode → ℕ → ℕ
own_at fs n = own_of (slice_get fs n)

-- what is gathered of a function
abbrev pub needs_of : FunctionCode → FunctionNeeds
needs_of f = record { calls = callees f; own = own f; returns = has_return_word f }

-- at most so many words for the objects of a program: 400,000 objects of at most 32,768 words each
abbrev pub most_object_words : ℕ
most_object_words = 2 ^ 34

abbrev pub own_in : Option FunctionNeeds → ℕ
own_in None = 0
own_in (Some n) = n.own
