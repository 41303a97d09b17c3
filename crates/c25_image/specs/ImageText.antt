-- The text of an image (docs/FORMATS.md, "Image").
use Rattle.std.specs.Prelude.{ℕ, zero, suc, ◌+◌, ◌/◌, List, [], ◌∷◌, ◌++◌, length, take, drop, map, codes, decimal}
use Rattle.std.specs.List.{flat_map}
use Rattle.c25_isa.specs.declared.image.FunctionRange.{FunctionRange}
use Rattle.c25_isa.specs.Image.{Contents}
use Rattle.text_base.specs.Hex.{hex4}
use Rattle.text_base.specs.Lines.{lines_text}

-- the line of words, one space between two of them
abbrev pub word_line : List ℕ → List ℕ
word_line [] = []
word_line (w ∷ ws) = hex4 w ++ flat_map (λ v. 32 ∷ hex4 v) ws

-- so many lines of words, eight to a line and the rest on the last
abbrev pub word_lines : ℕ → List ℕ → List (List ℕ)
word_lines zero ws = []
word_lines (suc n) ws = word_line (take 8 ws) ∷ word_lines n (drop 8 ws)

-- how many lines so many words take
abbrev pub line_count : ℕ → ℕ
line_count words = (words + 7) / 8

-- two words, each behind one space
abbrev pub range_words : ℕ → ℕ → List ℕ
range_words first last = 32 ∷ hex4 first ++ 32 ∷ hex4 last

-- the line of a function: its name, its first and its last word
abbrev pub range_line : FunctionRange → List ℕ
range_line f = codes "func " ++ (f.name ++ range_words f.first f.last)

-- the line that says how many words there are
abbrev pub size_line : ℕ → List ℕ
size_line words = codes "words " ++ decimal words

-- the line that names the format
abbrev pub first_line : List ℕ
first_line = codes "C25 IMAGE 1"

-- the line behind which nothing stands
abbrev pub last_line : List ℕ
last_line = codes "end"

-- the two head lines, the words and the functions
abbrev pub open_lines : Contents → List (List ℕ)
open_lines c = first_line ∷ size_line (length c.words) ∷ (word_lines (line_count (length c.words)) c.words ++ map range_line c.functions)

-- all lines
abbrev pub image_lines : Contents → List (List ℕ)
image_lines c = open_lines c ++ last_line ∷ []

-- the one spelling of an image
abbrev pub image_text : Contents → List ℕ
image_text c = lines_text (image_lines c)
