-- How the operands of an instruction are written (docs/FORMATS.md, "Listings").
use Rattle.std.specs.Prelude.{ℕ, ◌/◌, ◌%◌, Bool, true, false, if◌then◌else◌, List, [], ◌∷◌, ◌++◌, Option, Some, None, codes, decimal}
use Rattle.std.specs.Fmt.{signed_decimal}
use Rattle.std.specs.List.{flat_map}
use Rattle.c25_isa.specs.declared.operand.Change.{Change}
use Rattle.c25_isa.specs.declared.operand.Change.TheVariants.{Stay, Down, Up, DownIndex, UpIndex}
use Rattle.c25_isa.specs.declared.operand.Indirect.{Indirect}
use Rattle.c25_isa.specs.declared.operand.Operand.{Operand}
use Rattle.c25_isa.specs.declared.operand.Operand.TheVariants as operand
use Rattle.c25_isa.specs.declared.fields.Fields.{Fields}
use Rattle.c25_isa.specs.declared.fields.Fields.TheVariants as fields
use Rattle.c25_image.specs.Hex.{hex_digit, hex4}
use Rattle.c25_dis.specs.declared.part.Part.{Part}
use Rattle.c25_dis.specs.declared.part.Part.TheVariants as part

-- the low eight and the low twelve bits as two and three lower-case digits
abbrev pub hex2 : ℕ → List ℕ
hex2 n = hex_digit (n / 16 % 16) ∷ hex_digit (n % 16) ∷ []

abbrev pub hex3 : ℕ → List ℕ
hex3 n = hex_digit (n / 256 % 16) ∷ hex2 n

-- an indirect operand, without the register that is current afterwards
abbrev pub change_text : Change → List ℕ
change_text Stay = codes "*"
change_text Down = codes "*-"
change_text Up = codes "*+"
change_text DownIndex = codes "*0-"
change_text UpIndex = codes "*0+"

abbrev pub place_text : Operand → List ℕ
place_text (operand.Direct offset) = codes "0x" ++ hex2 offset
place_text (operand.Indirect i) = change_text i.change

-- what stands between two commas
abbrev pub part_text : Part → List ℕ
part_text (part.Register number) = codes "AR" ++ decimal number
part_text (part.Place o) = place_text o
part_text (part.Shift number) = decimal number
part_text (part.Port number) = codes "PA" ++ decimal number
part_text (part.Byte constant) = codes "0x" ++ hex2 constant
part_text (part.Page constant) = codes "0x" ++ hex3 constant
part_text (part.Signed constant) = signed_decimal constant
part_text (part.Word word) = codes "0x" ++ hex4 word

-- each behind a comma
abbrev pub behind_commas : List Part → List ℕ
behind_commas parts = flat_map (λ p. 44 ∷ part_text p) parts

-- the first behind a space
abbrev pub parts_text : List Part → List ℕ
parts_text [] = []
parts_text (p ∷ parts) = 32 ∷ part_text p ++ behind_commas parts

-- the register that is current afterwards, where that is set
abbrev pub next_parts : Option ℕ → List Part
next_parts None = []
next_parts (Some register) = part.Register register ∷ []

abbrev pub next_of : Operand → Option ℕ
next_of (operand.Direct offset) = None
next_of (operand.Indirect i) = i.next

-- an indirect operand that changes neither its register nor which one is current
abbrev pub is_idle : Change → Option ℕ → Bool
is_idle Stay None = true
is_idle change next = false

-- the indirect operand of a jump is written only where it does something
abbrev pub target_parts : ℕ → Indirect → List Part
target_parts to i =
    if is_idle i.change i.next then part.Word to ∷ []
    else part.Word to ∷ part.Place (operand.Indirect i) ∷ next_parts i.next

-- the operands in the order in which they are written
abbrev pub parts_of : Fields → List Part
parts_of fields.NoOperand = []
parts_of (fields.Memory o) = part.Place o ∷ next_parts (next_of o)
parts_of (fields.ShiftedMemory shift o) = part.Place o ∷ part.Shift shift ∷ next_parts (next_of o)
parts_of (fields.RegisterMemory register o) = part.Register register ∷ part.Place o ∷ next_parts (next_of o)
parts_of (fields.PortMemory port o) = part.Place o ∷ part.Port port ∷ next_parts (next_of o)
parts_of (fields.Pointer i) = part.Place (operand.Indirect i) ∷ next_parts i.next
parts_of (fields.Constant8 constant) = part.Byte constant ∷ []
parts_of (fields.Constant9 constant) = part.Page constant ∷ []
parts_of (fields.Constant13 constant) = part.Signed constant ∷ []
parts_of (fields.RegisterConstant register constant) = part.Register register ∷ part.Byte constant ∷ []
parts_of (fields.Word word) = part.Word word ∷ []
parts_of (fields.ShiftedWord shift word) = part.Word word ∷ part.Shift shift ∷ []
parts_of (fields.RegisterWord register word) = part.Register register ∷ part.Word word ∷ []
parts_of (fields.Target to i) = target_parts to i
