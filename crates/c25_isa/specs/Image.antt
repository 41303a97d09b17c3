-- What an image holds (docs/FORMATS.md, "Image").
use Rattle.std.specs.Prelude.{ℕ, ◌+◌, ◌<◌, ◌≤◌, List, [], ◌∷◌, length}
use Rattle.word_base.specs.Name.{IsName}
use Rattle.c25_isa.specs.declared.image.FunctionRange.{FunctionRange}

-- program words, and the functions among them
pub record Contents : Type 0 where
  pub words : List ℕ
  pub functions : List FunctionRange

-- a function from one word on, among so many
pub record IsRange (from count : ℕ) (f : FunctionRange) : Type 0 where
  pub name : IsName f.name
  pub behind : from ≤ f.first
  pub rises : f.first ≤ f.last
  pub within : f.last < count

-- functions one behind another, from one word on among so many
abbrev pub AreRanges : ℕ → ℕ → List FunctionRange → Type 0
AreRanges from count [] = Unit {0}
AreRanges from count (f ∷ fs) = IsRange from count f × AreRanges (f.last + 1) count fs

pub record IsImage (words : List ℕ) (functions : List FunctionRange) : Type 0 where
  pub short : length words ≤ 65536
  pub ranges : AreRanges 0 (length words) functions
