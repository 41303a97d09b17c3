-- The listing of words (docs/FORMATS.md, "Listings").
use Rattle.std.specs.Prelude.{ℕ, zero, suc, ◌-◌, nat_lt, if◌then◌else◌, List, [], ◌∷◌, ◌++◌, length, map, slice_index, Some, None, codes}
use Rattle.c25_isa.specs.declared.instruction.Instr.{Instr}
use Rattle.c25_isa.specs.declared.mnemonic.Mnemonic.{Mnemonic}
use Rattle.c25_isa.specs.declared.mnemonic.Mnemonic.TheVariants as mnemonic
use Rattle.c25_isa.specs.Rows.{row, row_of, fields_of}
use Rattle.c25_isa.specs.Table.{IsInstr, instr_words}
use Rattle.c25_isa.specs.Decode.{Decoded, decode}
use Rattle.c25_image.specs.Hex.{hex4}
use Rattle.c25_image.specs.Lines.{lines_text}
use Rattle.c25_dis.specs.Operands.{parts_of, parts_text}
use Rattle.c25_dis.specs.declared.line.Line.{Line}
use Rattle.c25_dis.specs.declared.line.Line.TheVariants as line

-- the one operand that SPM has
abbrev pub fixed_text : Mnemonic → List ℕ
fixed_text mnemonic.Spm = codes " 0"
fixed_text m = []

abbrev pub instr_text : Instr → List ℕ
instr_text i = (row (row_of i)).name ++ (fixed_text (row_of i) ++ parts_text (parts_of (fields_of i)))

abbrev pub line_text : Line → List ℕ
line_text (line.Instruction i) = instr_text i
line_text (line.Data word) = codes ".word 0x" ++ hex4 word

-- an instruction all of whose words are there, where so many are left
abbrev pub whole : ℕ → Decoded → Decoded
whole left None = None
whole left (Some (i, len)) = if nat_lt left len then None else Some (i, len)

-- the line of an instruction, else of the word itself, and how many words it takes
abbrev pub line_of : ℕ → Decoded → Line × ℕ
line_of word None = (line.Data word, 1)
line_of word (Some (i, len)) = (line.Instruction i, len)

-- the line at a word, before others
abbrev pub first_line : ℕ → List ℕ → Line × ℕ
first_line w ws = line_of w (whole (length (w ∷ ws)) (decode w (slice_index ws 0)))

-- the lines of words, of which the first so many belong to the line before
abbrev pub lines_from : ℕ → List ℕ → List Line
lines_from within [] = []
lines_from (suc within) (w ∷ ws) = lines_from within ws
lines_from zero (w ∷ ws) = (first_line w ws).0 ∷ lines_from ((first_line w ws).1 - 1) ws

abbrev pub lines_of : List ℕ → List Line
lines_of words = lines_from 0 words

-- a line for each instruction, in order
abbrev pub listing_text : List ℕ → List ℕ
listing_text words = lines_text (map line_text (lines_of words))

-- the words that a line stands for
abbrev pub line_words : Line → List ℕ
line_words (line.Instruction i) = instr_words i
line_words (line.Data word) = word ∷ []

-- an instruction that is written has its operands in their ranges
abbrev pub LineFits : Line → Type 0
LineFits (line.Instruction i) = IsInstr i
LineFits (line.Data word) = Unit {0}
