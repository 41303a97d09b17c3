-- What a text is assembled to, line by line (docs/FORMATS.md, "Assembler text").
use Rattle.std.specs.Prelude.{◌≡◌, ◌⊎◌, ℕ, ◌+◌, ◌%◌, ◌<◌, true, List, ◌∷◌, ◌++◌, length, Some, Ok, Err}
use Rattle.std.specs.Str.Lines.{lines}
use Rattle.c25_isa.specs.declared.instruction.Instr.{Instr}
use Rattle.c25_isa.specs.Rows.{row_of}
use Rattle.c25_isa.specs.Table.{IsInstr, instr_words}
use Rattle.c25_asm.specs.declared.fault.AsmFault.{AsmFault}
use Rattle.c25_asm.specs.declared.fault.AsmFault.TheVariants as faults
use Rattle.c25_asm.specs.declared.statement.LineFault.{LineFault}
use Rattle.c25_asm.specs.declared.statement.LineWords.{LineWords}
use Rattle.c25_asm.specs.declared.statement.LineWords.TheVariants.{Nothing, One}
use Rattle.c25_asm.specs.Cuts.{statement, head_word}
use Rattle.c25_asm.specs.Statements.{line_words, is_data, mnemonic_of}
use Rattle.c25_asm.specs.AssemblerText.{words_list, fault_at, words_from, labels_of}

-- a line stands in a text behind others
pub record StandsBehind (text : List ℕ) (front : List (List ℕ)) (line : List ℕ) : Type 0 where
  pub back : List (List ℕ)
  pub cut : lines text ≡ front ++ line ∷ back

-- lines have these words
abbrev pub HaveWords : List ℕ → List (List ℕ) → List ℕ → Type 0
HaveWords text front words = words_from (labels_of text) 1 front ≡ Ok words

-- the line of this number is the first with a fault
pub record IsFirstFault (text : List ℕ) (number : ℕ) (told : LineFault) : Type 0 where
  pub front : List (List ℕ)
  pub line : List ℕ
  pub stands : StandsBehind text front line
  pub counted : number ≡ length front + 1
  pub words : List ℕ
  pub before : HaveWords text front words
  pub fault : line_words (labels_of text) number line ≡ Err told

-- no line has a fault, and there are more words than 65,536
pub record IsTooLong (text : List ℕ) (count : ℕ) : Type 0 where
  pub words : List ℕ
  pub all : HaveWords text (lines text) words
  pub counted : count ≡ length words
  pub above : 65536 < count

-- why a text isn't assembled
abbrev pub Says : List ℕ → AsmFault → Type 0
Says text fault = ((number : ℕ) × (told : LineFault) × (fault ≡ fault_at number told) × IsFirstFault text number told) ⊎ ((count : ℕ) × (fault ≡ faults.TooLong count) × IsTooLong text count)

-- the words of a statement are those of an instruction of the row that its mnemonic names, or one word alone, or there are none
abbrev pub IsOfRow : List ℕ → LineWords → Type 0
IsOfRow line words = (i : Instr) × (mnemonic_of (head_word (statement line)) ≡ Some (row_of i)) × IsInstr i × (words_list words ≡ instr_words i)

abbrev pub IsOfTable : List ℕ → LineWords → Type 0
IsOfTable line words = (words ≡ Nothing) ⊎ (((w : ℕ) × (is_data (head_word (statement line)) ≡ true) × (words ≡ One w)) ⊎ IsOfRow line words)

-- a label's number is the number of the words of the lines before it, modulo 65,536
pub record NumbersWords (text : List ℕ) (front : List (List ℕ)) (name : List ℕ) : Type 0 where
  pub words : List ℕ
  pub before : HaveWords text front words
  pub placed : labels_of text name ≡ Some (record { number = length words % 65536; line = length front + 1 })
