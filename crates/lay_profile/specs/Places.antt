-- The places of the blocks of a function's walk, one a block.
use Rattle.std.specs.Prelude.{◌≡◌, ℕ, ◌<◌, List, [], length, slice_index_or, Some}
use Rattle.c25_isa.specs.Image.{Contents}
use Rattle.c25_isa.specs.Walk.{Blocks}
use Rattle.c25_walk.specs.Places.{places_of}
use Rattle.c25_walk.specs.Walks.{walk_of}

-- the walk of a function has so many blocks
pub record HasBlocks (image : Contents) (function count : ℕ) : Type 0 where
  pub blocks : List (List ℕ)
  pub walked : walk_of image function ≡ Some (Blocks blocks)
  pub many : length blocks ≡ count

-- each of the lists has the places of the function of its number
abbrev pub ArePlaces : Contents → List (List ℕ) → Type 0
ArePlaces image lists = (function : ℕ) → function < length lists → places_of image function ≡ Some (slice_index_or lists function [])
