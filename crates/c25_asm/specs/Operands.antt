-- How the operands of each form are read (docs/FORMATS.md, "Assembler text").
use Rattle.std.specs.Prelude.{ℕ, Bool, true, false, if◌then◌else◌, List, [], ◌∷◌, Option, Some, None, Result, Ok, Err, codes}
use Rattle.std.specs.Str.{bytes_eq}
use Rattle.c25_isa.specs.declared.operand.Change.{Change}
use Rattle.c25_isa.specs.declared.operand.Change.TheVariants.{Stay, Down, Up, DownIndex, UpIndex}
use Rattle.c25_isa.specs.declared.operand.Indirect.{Indirect}
use Rattle.c25_isa.specs.declared.operand.Operand.{Operand}
use Rattle.c25_isa.specs.declared.operand.Operand.TheVariants as operand
use Rattle.c25_isa.specs.declared.mnemonic.Form.{Form}
use Rattle.c25_isa.specs.declared.mnemonic.Form.TheVariants as form
use Rattle.c25_isa.specs.declared.fields.Fields.{Fields}
use Rattle.c25_isa.specs.declared.fields.Fields.TheVariants as fields
use Rattle.c25_asm.specs.declared.statement.LineFault.{LineFault}
use Rattle.c25_asm.specs.declared.statement.LineFault.TheVariants.{BadLine, OutOfRange, UnknownLabel, LabelTwice}
use Rattle.c25_asm.specs.declared.statement.Place.{Place}
use Rattle.c25_asm.specs.Cuts.{first_operand, more_operands}
use Rattle.c25_asm.specs.Numbers.{number, below, signed_number, numbered}
use Rattle.c25_asm.specs.Names.{Labels, is_name}

-- the fault of two that is told
abbrev pub first_told : LineFault → LineFault → LineFault
first_told BadLine other = BadLine
first_told LabelTwice BadLine = BadLine
first_told LabelTwice other = LabelTwice
first_told OutOfRange BadLine = BadLine
first_told OutOfRange LabelTwice = LabelTwice
first_told OutOfRange other = OutOfRange
first_told UnknownLabel other = other

-- two parts of a line, where neither has a fault
abbrev pub both : {A B : Type 0} → Result A LineFault → Result B LineFault → Result (A × B) LineFault
both (Ok a) (Ok b) = Ok (a, b)
both (Ok a) (Err fault) = Err fault
both (Err fault) (Ok b) = Err fault
both (Err fault) (Err other) = Err (first_told fault other)

abbrev pub made : {A B : Type 0} → (A → B) → Result A LineFault → Result B LineFault
made make (Ok a) = Ok (make a)
made make (Err fault) = Err fault

abbrev pub or_bad : {A : Type 0} → Option A → Result A LineFault
or_bad (Some a) = Ok a
or_bad None = Err BadLine

-- AR0 to AR7, and PA0 to PA15
abbrev pub register : List ℕ → Result ℕ LineFault
register text = or_bad (numbered (codes "AR") 8 text)

abbrev pub port : List ℕ → Result ℕ LineFault
port text = or_bad (numbered (codes "PA") 16 text)

-- a word is a number or the name of a label, which stands for the label's number
abbrev pub word_by : Option ℕ → Bool → Option Place → Result ℕ LineFault
word_by (Some n) named found = below 65536 (Some n)
word_by None false found = Err BadLine
word_by None true None = Err UnknownLabel
word_by None true (Some place) = Ok place.number

abbrev pub word : Labels → List ℕ → Result ℕ LineFault
word labels text = word_by (number text) (is_name text) (labels text)

-- how an indirect operand changes its register
abbrev pub change_of : List ℕ → Option Change
change_of text =
    if bytes_eq text (codes "*") then Some Stay else (
    if bytes_eq text (codes "*-") then Some Down else (
    if bytes_eq text (codes "*+") then Some Up else (
    if bytes_eq text (codes "*0-") then Some DownIndex else (
    if bytes_eq text (codes "*0+") then Some UpIndex else (
    None)))))

abbrev pub indirect_with : Change → Option ℕ → Indirect
indirect_with change next = record { change = change; next = next }

-- an indirect operand, and the register that is current afterwards where one is set
abbrev pub indirect_by : Option Change → Option (List ℕ) → Result Indirect LineFault
indirect_by None next = Err BadLine
indirect_by (Some change) None = Ok (indirect_with change None)
indirect_by (Some change) (Some next) = made (λ r. indirect_with change (Some r)) (register next)

abbrev pub indirect : List ℕ → Option (List ℕ) → Result Indirect LineFault
indirect text next = indirect_by (change_of text) next

-- a direct address, which sets no register
abbrev pub direct : List ℕ → Option (List ℕ) → Result ℕ LineFault
direct text None = below 128 (number text)
direct text (Some next) = Err BadLine

-- a word of data memory
abbrev pub place_by : Option Change → List ℕ → Option (List ℕ) → Result Operand LineFault
place_by None text next = made operand.Direct (direct text next)
place_by (Some change) text next = made operand.Indirect (indirect_by (Some change) next)

abbrev pub place : List ℕ → Option (List ℕ) → Result Operand LineFault
place text next = place_by (change_of text) text next

-- a second operand, where there is one
abbrev pub with_more : {A : Type 0} → (List ℕ → Result A LineFault) → Option (List ℕ) → Result A LineFault
with_more read None = Err BadLine
with_more read (Some text) = read text

-- one of data memory alone
abbrev pub memory : List ℕ → Result Fields LineFault
memory text = made fields.Memory (place (first_operand text) (more_operands text))

-- one of data memory with a number behind it, and last the register that is current afterwards
abbrev pub behind_place : (List ℕ → Result ℕ LineFault) → List ℕ → List ℕ → Result (ℕ × Operand) LineFault
behind_place read first more = both (read (first_operand more)) (place first (more_operands more))

abbrev pub shifted_memory : ℕ → List ℕ → Result Fields LineFault
shifted_memory shifts text =
    with_more (λ more. made (λ p. fields.ShiftedMemory p.0 p.1) (behind_place (λ t. below shifts (number t)) (first_operand text) more)) (more_operands text)

abbrev pub port_memory : List ℕ → Result Fields LineFault
port_memory text =
    with_more (λ more. made (λ p. fields.PortMemory p.0 p.1) (behind_place port (first_operand text) more)) (more_operands text)

-- a register first, and then one of data memory
abbrev pub register_memory : List ℕ → Result Fields LineFault
register_memory text =
    with_more (λ more. made (λ p. fields.RegisterMemory p.0 p.1) (both (register (first_operand text)) (place (first_operand more) (more_operands more)))) (more_operands text)

abbrev pub pointer : List ℕ → Result Fields LineFault
pointer text = made fields.Pointer (indirect (first_operand text) (more_operands text))

abbrev pub register_constant : List ℕ → Result Fields LineFault
register_constant text =
    with_more (λ more. made (λ p. fields.RegisterConstant p.0 p.1) (both (register (first_operand text)) (below 256 (number more)))) (more_operands text)

abbrev pub shifted_word : Labels → List ℕ → Result Fields LineFault
shifted_word labels text =
    with_more (λ more. made (λ p. fields.ShiftedWord p.1 p.0) (both (word labels (first_operand text)) (below 16 (number more)))) (more_operands text)

abbrev pub register_word : Labels → List ℕ → Result Fields LineFault
register_word labels text =
    with_more (λ more. made (λ p. fields.RegisterWord p.0 p.1) (both (register (first_operand text)) (word labels more))) (more_operands text)

-- the indirect operand of a jump, which isn't written where it changes no register and sets none
abbrev pub is_idle : Change → Option ℕ → Bool
is_idle Stay None = true
is_idle change next = false

abbrev pub busy : Result Indirect LineFault → Result Indirect LineFault
busy (Ok i) = if is_idle i.change i.next then Err BadLine else Ok i
busy (Err fault) = Err fault

abbrev pub jump_operand : Option (List ℕ) → Result Indirect LineFault
jump_operand None = Ok (indirect_with Stay None)
jump_operand (Some text) = busy (indirect (first_operand text) (more_operands text))

abbrev pub target : Labels → List ℕ → Result Fields LineFault
target labels text = made (λ p. fields.Target p.0 p.1) (both (word labels (first_operand text)) (jump_operand (more_operands text)))

abbrev pub no_operand : List ℕ → Result Fields LineFault
no_operand [] = Ok fields.NoOperand
no_operand (b ∷ bs) = Err BadLine

-- the operands of a form
abbrev pub form_operands : Labels → Form → List ℕ → Result Fields LineFault
form_operands labels form.NoOperand text = no_operand text
form_operands labels form.Memory text = memory text
form_operands labels (form.ShiftedMemory shifts) text = shifted_memory shifts text
form_operands labels form.RegisterMemory text = register_memory text
form_operands labels form.PortMemory text = port_memory text
form_operands labels form.Pointer text = pointer text
form_operands labels form.Constant8 text = made fields.Constant8 (below 256 (number text))
form_operands labels form.Constant9 text = made fields.Constant9 (below 512 (number text))
form_operands labels form.Constant13 text = made fields.Constant13 (signed_number text)
form_operands labels form.RegisterConstant text = register_constant text
form_operands labels form.Word text = made fields.Word (word labels text)
form_operands labels form.ShiftedWord text = shifted_word labels text
form_operands labels form.RegisterWord text = register_word labels text
form_operands labels form.Target text = target labels text
