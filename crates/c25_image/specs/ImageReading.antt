-- What the lines of an image's text say, one by one, and the first that isn't allowed (docs/FORMATS.md, "Image").
use Rattle.std.specs.Prelude.{◌≡◌, ◌≢◌, ℕ, ◌<◌, ◌≤◌, ◌^◌, Bool, true, false, List, [], ◌∷◌, ◌++◌, length, map}
use Rattle.std.specs.List.{AllByRecursion}
use Rattle.c25_isa.specs.declared.image.FunctionRange.{FunctionRange}
use Rattle.c25_isa.specs.Image.{AreRanges}
use Rattle.word_base.specs.Name.{IsName}
use Rattle.text_base.specs.Lines.{with_feed, lines_text, HasNoFeed}
use Rattle.c25_image.specs.ImageText.{first_line, last_line, size_line, word_line, word_lines, line_count, range_line}

-- each has 16 bits
abbrev pub AreWords : List ℕ → Type 0
AreWords words = AllByRecursion (λ w. w < 2 ^ 16) words

-- what a line can hold: one word and more
pub record IsRow (words : List ℕ) : Type 0 where
  pub some : 0 < length words
  pub fit : AreWords words

-- the words of a line stand behind others
pub record Joins (line old new : List ℕ) : Type 0 where
  pub words : List ℕ
  pub row : IsRow words
  pub text : line ≡ word_line words
  pub joined : new ≡ old ++ words

-- the words of a line stand behind others, or it isn't one of words
abbrev pub ReadsRow : List ℕ → List ℕ → List ℕ → Bool → Type 0
ReadsRow line old new true = Joins line old new
ReadsRow line old new false = (words : List ℕ) → IsRow words → line ≢ word_line words

-- a function that a line can be written of
pub record IsNamed (f : FunctionRange) : Type 0 where
  pub name : IsName f.name
  pub first : f.first < 2 ^ 16
  pub last : f.last < 2 ^ 16

-- the bytes begin with no allowed line
abbrev pub IsStuck : (List ℕ → Type 0) → List ℕ → Type 0
IsStuck Allowed bytes = (line tail : List ℕ) → HasNoFeed line → bytes ≡ with_feed line ++ tail → Allowed line → ⊥

-- the line of so many words
pub record IsRowOf (count : ℕ) (line : List ℕ) : Type 0 where
  pub words : List ℕ
  pub row : IsRow words
  pub counted : length words ≡ count
  pub text : line ≡ word_line words

-- the first line is one of so many words, which stand behind others now
pub record NextRow (count : ℕ) (bytes rest old new : List ℕ) : Type 0 where
  pub words : List ℕ
  pub row : IsRow words
  pub counted : length words ≡ count
  pub text : bytes ≡ with_feed (word_line words) ++ rest
  pub joined : new ≡ old ++ words

-- a line states how many words there are
pub record StatesSize (line : List ℕ) : Type 0 where
  pub count : ℕ
  pub fits : count < 2 ^ 64
  pub text : line ≡ size_line count

-- the two head lines, and what stands behind them
pub record ReadsHead (bytes : List ℕ) (count : ℕ) (rest : List ℕ) : Type 0 where
  pub short : count ≤ 65536
  pub text : bytes ≡ lines_text (first_line ∷ size_line count ∷ []) ++ rest

-- all words, and what stands behind their lines
pub record ReadsRows (bytes : List ℕ) (count : ℕ) (words rest : List ℕ) : Type 0 where
  pub counted : length words ≡ count
  pub fit : AreWords words
  pub text : bytes ≡ lines_text (word_lines (line_count count) words) ++ rest

-- all functions and the last line, and what stands behind that
pub record ReadsRanges (bytes : List ℕ) (count : ℕ) (functions : List FunctionRange) (rest : List ℕ) : Type 0 where
  pub ranges : AreRanges 0 count functions
  pub text : bytes ≡ lines_text (map range_line functions ++ last_line ∷ []) ++ rest
