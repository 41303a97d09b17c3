-- Assembler text (docs/FORMATS.md, "Assembler text"): its words, or its first fault. std's `lines` cuts the bytes: a line ends before a
-- line feed, which the last line may lack, and one carriage return right before a line feed belongs to the end of the line.
use Rattle.std.specs.Prelude.{ℕ, ◌+◌, ◌%◌, Bool, false, nat_lt, if◌then◌else◌, List, [], ◌∷◌, ◌++◌, length, Option, Some, None, Result, Ok, Err}
use Rattle.std.specs.Str.{bytes_eq}
use Rattle.std.specs.Str.Lines.{lines}
use Rattle.c25_asm.specs.declared.fault.AsmFault.{AsmFault}
use Rattle.c25_asm.specs.declared.fault.AsmFault.TheVariants as faults
use Rattle.c25_asm.specs.declared.statement.LineFault.{LineFault}
use Rattle.c25_asm.specs.declared.statement.LineFault.TheVariants.{BadLine, LabelTwice, OutOfRange, UnknownLabel}
use Rattle.c25_asm.specs.declared.statement.LineWords.{LineWords}
use Rattle.c25_asm.specs.declared.statement.LineWords.TheVariants.{Nothing, One, Two}
use Rattle.c25_asm.specs.declared.statement.Place.{Place}
use Rattle.c25_asm.specs.Names.{Labels, or_place}
use Rattle.c25_asm.specs.Statements.{label_of, size_of, line_words}

-- whether a line has this label
abbrev pub names : Option (List ℕ) → List ℕ → Bool
names None name = false
names (Some label) name = bytes_eq label name

-- where a label stands, if it is that of this line
abbrev pub place_on : List ℕ → Place → Labels
place_on line place name = if names (label_of line) name then Some place else None

-- where the next line stands
abbrev pub place_behind : Place → List ℕ → Place
place_behind place line = record { number = (place.number + size_of line) % 65536; line = place.line + 1 }

-- where a label stands first, by lines of which the first stands at a place
abbrev pub label_in : List (List ℕ) → Place → Labels
label_in [] place name = None
label_in (line ∷ more) place name = or_place (place_on line place name) (label_in more (place_behind place line) name)

abbrev pub first_place : Place
first_place = record { number = 0; line = 1 }

-- the labels of a text
abbrev pub labels_of : List ℕ → Labels
labels_of text = label_in (lines text) first_place

abbrev pub words_list : LineWords → List ℕ
words_list Nothing = []
words_list (One word) = word ∷ []
words_list (Two first second) = first ∷ second ∷ []

-- a fault on the line of a number
abbrev pub fault_at : ℕ → LineFault → AsmFault
fault_at line BadLine = faults.BadLine line
fault_at line LabelTwice = faults.LabelTwice line
fault_at line OutOfRange = faults.OutOfRange line
fault_at line UnknownLabel = faults.UnknownLabel line

-- words before others
abbrev pub before_words : List ℕ → Result (List ℕ) AsmFault → Result (List ℕ) AsmFault
before_words first (Ok more) = Ok (first ++ more)
before_words first (Err fault) = Err fault

-- the words of a line before those of the lines behind it; a fault of the line comes first
abbrev pub line_before : ℕ → Result LineWords LineFault → Result (List ℕ) AsmFault → Result (List ℕ) AsmFault
line_before number (Ok words) more = before_words (words_list words) more
line_before number (Err fault) more = Err (fault_at number fault)

-- the words of lines, of which the first has a number, or the first fault
abbrev pub words_from : Labels → ℕ → List (List ℕ) → Result (List ℕ) AsmFault
words_from labels number [] = Ok []
words_from labels number (line ∷ more) = line_before number (line_words labels number line) (words_from labels (number + 1) more)

-- at most 65,536 words
abbrev pub limited : Result (List ℕ) AsmFault → Result (List ℕ) AsmFault
limited (Ok words) = if nat_lt 65536 (length words) then Err (faults.TooLong (length words)) else Ok words
limited (Err fault) = Err fault

-- what a text is assembled to: its words, or its fault
abbrev pub assembled : List ℕ → Result (List ℕ) AsmFault
assembled text = limited (words_from (labels_of text) 1 (lines text))
