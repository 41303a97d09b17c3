-- The addresses of scalars, the numbers of functions and their marks, as they stand in memory.
use Rattle.std.specs.Prelude.{ℕ, ◌+◌, List, [], ◌∷◌, slice_set, Option, Some, None, if◌then◌else◌}
use Rattle.std.specs.Option.{option_or}
use Rattle.std.specs.Str.{bytes_eq}
use Rattle.std.specs.Borrow.{Bor}
use Rattle.std.specs.declared.hash.BuildHasherDefault.{BuildHasherDefault}
use Rattle.std.specs.declared.hash.FoldHasher.{FoldHasher}
use Rattle.std.specs.HashMap.{HashMap, get_by}

abbrev pub NameTable : Type 0
NameTable = HashMap (Bor (List ℕ)) ℕ (BuildHasherDefault FoldHasher)

-- the number that a table has for a name
abbrev pub number_in : NameTable → List ℕ → Option ℕ
number_in t = λ name. get_by (λ k. bytes_eq name k.now) t

-- a table of addresses with those of a list that begins at a base, and with those of lists
abbrev pub with_list : List ℕ → ℕ → List ℕ → List ℕ
with_list table base [] = table
with_list table base (scalar ∷ scalars) = with_list (slice_set table scalar base) (base + 1) scalars

abbrev pub with_lists : List ℕ → List ℕ → List (List ℕ) → List ℕ
with_lists table [] lists = table
with_lists table (base ∷ bases) [] = table
with_lists table (base ∷ bases) (list ∷ lists) = with_lists (with_list table base list) bases lists

-- with a name, unless it is there
abbrev pub with_name : List ℕ → ℕ → (List ℕ → Option ℕ) → List ℕ → Option ℕ
with_name name number found = λ other. option_or (found other) (if bytes_eq name other then Some number else None)
