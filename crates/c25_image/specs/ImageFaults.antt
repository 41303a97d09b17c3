-- Where a text stops being that of an image (docs/FORMATS.md, "Image").
use Rattle.std.specs.Prelude.{◌≡◌, ◌≢◌, ℕ, ◌+◌, ◌-◌, ◌<◌, ◌^◌, List, [], ◌∷◌, ◌++◌, length}
use Rattle.c25_isa.specs.declared.image.FunctionRange.{FunctionRange}
use Rattle.c25_isa.specs.Image.{Contents, IsImage, IsRange}
use Rattle.text_base.specs.Lines.{lines_text}
use Rattle.c25_image.specs.ImageText.{first_line, size_line, range_line, open_lines, image_lines, image_text}
use Rattle.c25_image.specs.ImageReading.{AreWords, IsNamed}
use Rattle.c25_image.specs.declared.fault.ImageFault.{ImageFault}
use Rattle.c25_image.specs.declared.fault.ImageFault.TheVariants as faults

-- what an image holds: words of 16 bits, and functions in order
pub record IsWhole (c : Contents) : Type 0 where
  pub words : AreWords c.words
  pub image : IsImage c.words c.functions

-- no image has this text
abbrev pub IsNoText : List ℕ → Type 0
IsNoText bytes = (c : Contents) → IsWhole c → bytes ≢ image_text c

-- the first n lines of the bytes are those of some image's text
pub record Begins (n : ℕ) (bytes : List ℕ) : Type 0 where
  pub contents : Contents
  pub whole : IsWhole contents
  pub front : List (List ℕ)
  pub back : List (List ℕ)
  pub lines : image_lines contents ≡ front ++ back
  pub count : length front ≡ n
  pub rest : List ℕ
  pub text : bytes ≡ lines_text front ++ rest

-- the first line is right, and the second states more words than an image has
pub record StatesTooMany (bytes : List ℕ) (count : ℕ) : Type 0 where
  pub above : 65536 < count
  pub fits : count < 2 ^ 64
  pub rest : List ℕ
  pub text : bytes ≡ lines_text (first_line ∷ size_line count ∷ []) ++ rest

-- the first word that a function may have behind others
abbrev pub behind : ℕ → List FunctionRange → ℕ
behind from [] = from
behind from (f ∷ fs) = behind (f.last + 1) fs

-- behind the lines of an image but its last, a line is that of a function whose range breaks the rule
pub record HasBadRange (bytes : List ℕ) (line : ℕ) : Type 0 where
  pub contents : Contents
  pub whole : IsWhole contents
  pub count : line ≡ length (open_lines contents) + 1
  pub function : FunctionRange
  pub named : IsNamed function
  pub breaks : IsRange (behind 0 contents.functions) (length contents.words) function → ⊥
  pub rest : List ℕ
  pub text : bytes ≡ lines_text (open_lines contents ++ range_line function ∷ []) ++ rest

-- no image has this text, the line is the first with which none begins, and it has no fault of its own kind
pub record IsFirstFaulty (bytes : List ℕ) (line : ℕ) : Type 0 where
  pub wrong : IsNoText bytes
  pub from_one : 0 < line
  pub before : Begins (line - 1) bytes
  pub here : Begins line bytes → ⊥
  pub not_long : (count : ℕ) → StatesTooMany bytes count → ⊥
  pub not_range : (other : ℕ) → HasBadRange bytes other → ⊥

-- what each fault says of the bytes
abbrev pub Says : List ℕ → ImageFault → Type 0
Says bytes (faults.BadLine line) = IsFirstFaulty bytes line
Says bytes (faults.TooLong count) = StatesTooMany bytes count
Says bytes (faults.BadRange line) = HasBadRange bytes line
Says bytes faults.NoMemory = Unit {0}
