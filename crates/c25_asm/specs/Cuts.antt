-- Cuts of a line (docs/FORMATS.md, "Assembler text").
use Rattle.std.specs.Prelude.{◌≡◌, true, false, ℕ, ◌-◌, ◌==◌, ◌||◌, Bool, if◌then◌else◌, List, [], ◌∷◌, length, take, reverse, slice_index, Option, Some, None}
use Rattle.std.specs.List.{AllByRecursion}

-- a space or a tab
abbrev pub is_blank : ℕ → Bool
is_blank byte = (byte == 32) || (byte == 9)

-- no byte passes a test
abbrev pub Lacks : (ℕ → Bool) → List ℕ → Type 0
Lacks test bytes = AllByRecursion (λ b. test b ≡ false) bytes

-- each byte is a blank
abbrev pub AreBlank : List ℕ → Type 0
AreBlank bytes = AllByRecursion (λ b. is_blank b ≡ true) bytes

-- what stands before the first byte that passes a test, or all where none does
abbrev pub before : (ℕ → Bool) → List ℕ → List ℕ
before test [] = []
before test (b ∷ bs) = if test b then [] else b ∷ before test bs

-- what stands behind the first byte that passes a test, where one does
abbrev pub behind : (ℕ → Bool) → List ℕ → Option (List ℕ)
behind test [] = None
behind test (b ∷ bs) = if test b then Some bs else behind test bs

-- the text from the first byte on that passes a test
abbrev pub from_first : (ℕ → Bool) → List ℕ → List ℕ
from_first test [] = []
from_first test (b ∷ bs) = if test b then b ∷ bs else from_first test bs

-- the first byte, if there is one, passes a test
abbrev pub PassesFirst : (ℕ → Bool) → List ℕ → Type 0
PassesFirst test [] = Unit {0}
PassesFirst test (b ∷ bs) = test b ≡ true

-- without the blanks in front
abbrev pub behind_blanks : List ℕ → List ℕ
behind_blanks [] = []
behind_blanks (b ∷ bs) = if is_blank b then behind_blanks bs else b ∷ bs

-- without the blanks at the end
abbrev pub before_blanks : List ℕ → List ℕ
before_blanks text = reverse (behind_blanks (reverse text))

abbrev pub trimmed : List ℕ → List ℕ
trimmed text = before_blanks (behind_blanks text)

-- what a line says: without its comment, which begins at a semicolon, and without the blanks at both ends
abbrev pub statement : List ℕ → List ℕ
statement line = trimmed (before (λ b. b == 59) line)

-- the first word of a statement, and what stands behind the blanks that follow it
abbrev pub head_word : List ℕ → List ℕ
head_word text = before is_blank text

abbrev pub behind_head : List ℕ → List ℕ
behind_head text = behind_blanks (from_first is_blank text)

-- the first of several operands, and what stands behind its comma, where there is one
abbrev pub first_operand : List ℕ → List ℕ
first_operand text = before (λ b. b == 44) text

abbrev pub more_operands : List ℕ → Option (List ℕ)
more_operands text = behind (λ b. b == 44) text

-- what stands before the colon at the end, where there is one
abbrev pub before_colon : List ℕ → Option (List ℕ)
before_colon text = if slice_index text (length text - 1) == 58 then Some (take (length text - 1) text) else None
