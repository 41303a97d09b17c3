-- Lines of a text, without their line feeds (docs/FORMATS.md). std's `lines` cuts the bytes: a line ends before a line feed, which
-- the last line may lack, and one carriage return right before a line feed belongs to the end of the line.
use Rattle.std.specs.Prelude.{◌≢◌, ℕ, List, [], ◌∷◌, ◌++◌}
use Rattle.std.specs.List.{flat_map, AllByRecursion}

-- a line with its line feed
abbrev pub with_feed : List ℕ → List ℕ
with_feed line = line ++ 10 ∷ []

-- lines, each with its line feed
abbrev pub lines_text : List (List ℕ) → List ℕ
lines_text all = flat_map with_feed all

-- no byte is of this kind
abbrev pub Lacks : ℕ → List ℕ → Type 0
Lacks mark bytes = AllByRecursion (λ b. b ≢ mark) bytes

-- what a line can be
abbrev pub HasNoFeed : List ℕ → Type 0
HasNoFeed line = Lacks 10 line
