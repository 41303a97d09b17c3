-- Where the reading of an image's text stops, in each of its parts (docs/FORMATS.md, "Image").
use Rattle.std.specs.Prelude.{◌≡◌, ◌⊎◌, ℕ, ◌+◌, ◌-◌, ◌*◌, ◌<◌, min, List, ◌++◌, length, map}
use Rattle.c25_isa.specs.declared.image.FunctionRange.{FunctionRange}
use Rattle.c25_isa.specs.Image.{AreRanges, IsRange}
use Rattle.text_base.specs.Lines.{with_feed, lines_text}
use Rattle.c25_image.specs.ImageText.{first_line, last_line, word_lines, range_line}
use Rattle.c25_image.specs.ImageReading.{AreWords, IsNamed, IsStuck, IsRowOf, StatesSize}
use Rattle.c25_image.specs.ImageFaults.{StatesTooMany, behind}
use Rattle.c25_image.specs.declared.fault.ImageFault.{ImageFault}
use Rattle.c25_image.specs.declared.fault.ImageFault.TheVariants as faults

-- the first line isn't the right one
abbrev pub StopsAtFirst : List ℕ → Type 0
StopsAtFirst bytes = IsStuck (λ line. line ≡ first_line) bytes

-- behind the first line none states a size
pub record StopsAtSecond (bytes : List ℕ) : Type 0 where
  pub rest : List ℕ
  pub text : bytes ≡ with_feed first_line ++ rest
  pub stuck : IsStuck StatesSize rest

-- in the head lines
abbrev pub StopsInHead : List ℕ → ImageFault → Type 0
StopsInHead bytes (faults.BadLine line) = ((line ≡ 1) × StopsAtFirst bytes) ⊎ ((line ≡ 2) × StopsAtSecond bytes)
StopsInHead bytes (faults.TooLong count) = StatesTooMany bytes count
StopsInHead bytes (faults.BadRange line) = ⊥
StopsInHead bytes faults.NoMemory = ⊥

-- behind full lines of words none may follow
pub record StopsAtRow (bytes : List ℕ) (count line : ℕ) : Type 0 where
  pub words : List ℕ
  pub lines : ℕ
  pub number : line ≡ 3 + lines
  pub full : length words ≡ 8 * lines
  pub more : 8 * lines < count
  pub fit : AreWords words
  pub rest : List ℕ
  pub text : bytes ≡ lines_text (word_lines lines words) ++ rest
  pub stuck : IsStuck (IsRowOf (min 8 (count - 8 * lines))) rest

-- in the lines of so many words
abbrev pub StopsInRows : List ℕ → ℕ → ImageFault → Type 0
StopsInRows bytes count (faults.BadLine line) = StopsAtRow bytes count line
StopsInRows bytes count (faults.TooLong stated) = ⊥
StopsInRows bytes count (faults.BadRange line) = ⊥
StopsInRows bytes count faults.NoMemory = Unit {0}

-- the last line, or that of a function
abbrev pub IsRangeOrLast : List ℕ → Type 0
IsRangeOrLast line = (line ≡ last_line) ⊎ ((f : FunctionRange) × IsNamed f × (line ≡ range_line f))

-- behind some functions neither another nor the last line follows
pub record StopsAtRange (bytes : List ℕ) (count from line : ℕ) : Type 0 where
  pub functions : List FunctionRange
  pub ranges : AreRanges 0 count functions
  pub number : line ≡ from + length functions
  pub rest : List ℕ
  pub text : bytes ≡ lines_text (map range_line functions) ++ rest
  pub stuck : IsStuck IsRangeOrLast rest

-- behind some functions another has a range that may not stand there
pub record StopsAtBadRange (bytes : List ℕ) (count from line : ℕ) : Type 0 where
  pub functions : List FunctionRange
  pub ranges : AreRanges 0 count functions
  pub number : line ≡ from + length functions
  pub function : FunctionRange
  pub named : IsNamed function
  pub breaks : IsRange (behind 0 functions) count function → ⊥
  pub rest : List ℕ
  pub text : bytes ≡ lines_text (map range_line functions) ++ (with_feed (range_line function) ++ rest)

-- in the lines of the functions among so many words, the first of which has a number
abbrev pub StopsInRanges : List ℕ → ℕ → ℕ → ImageFault → Type 0
StopsInRanges bytes count from (faults.BadLine line) = StopsAtRange bytes count from line
StopsInRanges bytes count from (faults.TooLong stated) = ⊥
StopsInRanges bytes count from (faults.BadRange line) = StopsAtBadRange bytes count from line
StopsInRanges bytes count from faults.NoMemory = Unit {0}
