-- What a line says (docs/FORMATS.md, "Assembler text").
use Rattle.std.specs.Prelude.{ℕ, ◌+◌, ◌==◌, Bool, true, false, if◌then◌else◌, List, [], ◌∷◌, Option, Some, None, Result, Ok, Err, codes}
use Rattle.std.specs.List.{find}
use Rattle.std.specs.Str.{bytes_eq, str_eq_ignore_ascii_case}
use Rattle.c25_isa.specs.declared.instruction.JumpOp.TheVariants as jump
use Rattle.c25_isa.specs.declared.mnemonic.Mnemonic.{Mnemonic}
use Rattle.c25_isa.specs.declared.mnemonic.Mnemonic.TheVariants as mnemonic
use Rattle.c25_isa.specs.declared.mnemonic.Form.{Form}
use Rattle.c25_isa.specs.declared.mnemonic.Form.TheVariants as form
use Rattle.c25_isa.specs.declared.fields.Fields.{Fields}
use Rattle.c25_isa.specs.declared.fields.Fields.TheVariants as fields
use Rattle.c25_isa.specs.Rows.{row}
use Rattle.c25_isa.specs.Table.{fields_code, fields_second}
use Rattle.c25_asm.specs.declared.statement.LineFault.{LineFault}
use Rattle.c25_asm.specs.declared.statement.LineFault.TheVariants.{BadLine, LabelTwice}
use Rattle.c25_asm.specs.declared.statement.LineWords.{LineWords}
use Rattle.c25_asm.specs.declared.statement.LineWords.TheVariants.{Nothing, One, Two}
use Rattle.c25_asm.specs.declared.statement.Place.{Place}
use Rattle.c25_asm.specs.Cuts.{statement, head_word, behind_head, before_colon}
use Rattle.c25_asm.specs.Names.{Labels, is_name}
use Rattle.c25_asm.specs.Operands.{made, word, form_operands}

-- all rows of the instruction table
abbrev pub mnemonics : List Mnemonic
mnemonics =
    mnemonic.Add ∷ mnemonic.Sub ∷ mnemonic.Lac ∷ mnemonic.Lar ∷ mnemonic.Mpy ∷ mnemonic.Lt ∷ mnemonic.Zals ∷ mnemonic.Lact
    ∷ mnemonic.Subs ∷ mnemonic.Subc ∷ mnemonic.Adds ∷ mnemonic.Rpt ∷ mnemonic.Xor ∷ mnemonic.Or ∷ mnemonic.And ∷ mnemonic.Pshd
    ∷ mnemonic.Mar ∷ mnemonic.Sacl ∷ mnemonic.Sach ∷ mnemonic.Sar ∷ mnemonic.Popd ∷ mnemonic.Adrk ∷ mnemonic.Sbrk ∷ mnemonic.In
    ∷ mnemonic.Mpyk ∷ mnemonic.Lark ∷ mnemonic.Ldpk ∷ mnemonic.Lack ∷ mnemonic.Rptk ∷ mnemonic.Addk ∷ mnemonic.Subk ∷ mnemonic.Dint
    ∷ mnemonic.Rovm ∷ mnemonic.Rsxm ∷ mnemonic.Ssxm ∷ mnemonic.Spm ∷ mnemonic.Pac ∷ mnemonic.Apac ∷ mnemonic.Spac ∷ mnemonic.Sfl
    ∷ mnemonic.Sfr ∷ mnemonic.Idle ∷ mnemonic.Neg ∷ mnemonic.Ret ∷ mnemonic.Cmpl ∷ mnemonic.Lrlk ∷ mnemonic.Lalk ∷ mnemonic.Adlk
    ∷ mnemonic.Sblk ∷ mnemonic.Andk ∷ mnemonic.Ork ∷ mnemonic.Xork ∷ mnemonic.Out ∷ mnemonic.Branch jump.B ∷ mnemonic.Branch jump.Bgz
    ∷ mnemonic.Branch jump.Blez ∷ mnemonic.Branch jump.Blz ∷ mnemonic.Branch jump.Bgez ∷ mnemonic.Branch jump.Bnz
    ∷ mnemonic.Branch jump.Bz ∷ mnemonic.Call ∷ []

-- the row that a mnemonic names, in either case
abbrev pub spells : List ℕ → Mnemonic → Bool
spells text m = str_eq_ignore_ascii_case text (row m).name

abbrev pub mnemonic_of : List ℕ → Option Mnemonic
mnemonic_of text = find (spells text) mnemonics

-- the row whose one operand is the text 0
abbrev pub has_fixed_operand : Mnemonic → Bool
has_fixed_operand mnemonic.Spm = true
has_fixed_operand m = false

abbrev pub fixed_operand : List ℕ → Result Fields LineFault
fixed_operand text = if bytes_eq text (codes "0") then Ok fields.NoOperand else Err BadLine

abbrev pub row_operands : Labels → Mnemonic → List ℕ → Result Fields LineFault
row_operands labels m text = if has_fixed_operand m then fixed_operand text else form_operands labels (row m).form text

-- the words of a row with its operands
abbrev pub words_with : ℕ → Option ℕ → LineWords
words_with first None = One first
words_with first (Some second) = Two first second

abbrev pub row_words : Mnemonic → Fields → LineWords
row_words m f = words_with ((row m).base + fields_code f) (fields_second f)

abbrev pub instruction_by : Option Mnemonic → Labels → List ℕ → Result LineWords LineFault
instruction_by None labels text = Err BadLine
instruction_by (Some m) labels text = made (row_words m) (row_operands labels m text)

-- a word as a number or a label, or an instruction
abbrev pub is_data : List ℕ → Bool
is_data head = bytes_eq head (codes ".word")

abbrev pub instruction : Labels → List ℕ → List ℕ → Result LineWords LineFault
instruction labels head operands = if is_data head then made One (word labels operands) else instruction_by (mnemonic_of head) labels operands

-- the line of a label, which stands first on this line
abbrev pub label_by : ℕ → Bool → Option Place → Result LineWords LineFault
label_by number false found = Err BadLine
label_by number true None = Ok Nothing
label_by number true (Some place) = if place.line == number then Ok Nothing else Err LabelTwice

abbrev pub label : Labels → ℕ → List ℕ → Result LineWords LineFault
label labels number name = label_by number (is_name name) (labels name)

-- a label with its colon, or what is none
abbrev pub filled_by : Option (List ℕ) → Labels → ℕ → List ℕ → Result LineWords LineFault
filled_by (Some name) labels number text = label labels number name
filled_by None labels number text = instruction labels (head_word text) (behind_head text)

abbrev pub statement_words : Labels → ℕ → List ℕ → Result LineWords LineFault
statement_words labels number [] = Ok Nothing
statement_words labels number (b ∷ bs) = filled_by (before_colon (b ∷ bs)) labels number (b ∷ bs)

-- the words of the line of this number
abbrev pub line_words : Labels → ℕ → List ℕ → Result LineWords LineFault
line_words labels number line = statement_words labels number (statement line)

-- the label that a line has
abbrev pub name_or_none : Option (List ℕ) → Option (List ℕ)
name_or_none None = None
name_or_none (Some name) = if is_name name then Some name else None

abbrev pub label_of : List ℕ → Option (List ℕ)
label_of line = name_or_none (before_colon (statement line))

-- how many words a line has where it has no fault
abbrev pub form_size : Form → ℕ
form_size form.Word = 2
form_size form.ShiftedWord = 2
form_size form.RegisterWord = 2
form_size form.Target = 2
form_size f = 1

abbrev pub row_size : Option Mnemonic → ℕ
row_size None = 0
row_size (Some m) = form_size (row m).form

abbrev pub head_size : List ℕ → ℕ
head_size head = if is_data head then 1 else row_size (mnemonic_of head)

-- a line that has a label has no word
abbrev pub size_by : Option (List ℕ) → List ℕ → ℕ
size_by (Some name) text = 0
size_by None text = head_size (head_word text)

abbrev pub statement_size : List ℕ → ℕ
statement_size text = size_by (before_colon text) text

abbrev pub size_of : List ℕ → ℕ
size_of line = statement_size (statement line)
