-- Port files, line by line (docs/FORMATS.md, "Port files"). std's `lines` cuts the bytes: a line ends before a line feed, which
-- the last line may lack, and one carriage return right before a line feed belongs to the end of the line.
use Rattle.std.specs.Prelude.{◌≡◌, ◌⊎◌, ℕ, ◌+◌, ◌*◌, ◌<◌, ◌≤◌, nat_lt, if◌then◌else◌, List, [], ◌∷◌, ◌++◌, length, replicate, decimal}
use Rattle.std.specs.Str.Lines.{lines}
use Rattle.text_base.specs.Hex.{hex_digit}
use Rattle.c25_image.specs.declared.fault.PortFault.{PortFault}
use Rattle.c25_image.specs.declared.fault.PortFault.TheVariants as faults

-- 0 to 9, A to F
abbrev pub upper_digit : ℕ → ℕ
upper_digit d = if nat_lt d 10 then 48 + d else 55 + d

-- a code is that of a digit of this value
pub record IsHexDigit (code value : ℕ) : Type 0 where
  pub below : value < 16
  pub either : (code ≡ hex_digit value) ⊎ (code ≡ upper_digit value)

-- digits behind others of a value spell a word
abbrev pub Spells : ℕ → List ℕ → ℕ → Type 0
Spells before [] word = word ≡ before
Spells before (code ∷ codes) word = (value : ℕ) × IsHexDigit code value × Spells (before * 16 + value) codes word

-- one to four digits spell a word
pub record IsHexWord (digits : List ℕ) (word : ℕ) : Type 0 where
  pub some : 0 < length digits
  pub short : length digits ≤ 4
  pub spells : Spells 0 digits word

-- a port, one space or more, and a word
pub record IsPortLine (line : List ℕ) (put : ℕ × ℕ) : Type 0 where
  pub port : put.0 < 16
  pub blanks : ℕ
  pub digits : List ℕ
  pub word : IsHexWord digits put.1
  pub text : line ≡ decimal put.0 ++ 32 ∷ (replicate blanks 32 ++ digits)

-- a blank line gives nothing, and any other a word for a port
abbrev pub Gives : List ℕ → List (ℕ × ℕ) → Type 0
Gives line puts = ((line ≡ []) × (puts ≡ [])) ⊎ ((put : ℕ × ℕ) × IsPortLine line put × (puts ≡ put ∷ []))

-- what the first line gives stands before what the others give
pub record GivesBefore (First Others : List (ℕ × ℕ) → Type 0) (puts : List (ℕ × ℕ)) : Type 0 where
  pub front : List (ℕ × ℕ)
  pub back : List (ℕ × ℕ)
  pub first : First front
  pub others : Others back
  pub joined : puts ≡ front ++ back

-- what lines give, in order
abbrev pub AllGive : List (List ℕ) → List (ℕ × ℕ) → Type 0
AllGive [] puts = puts ≡ []
AllGive (line ∷ more) puts = GivesBefore (Gives line) (AllGive more) puts

-- the bytes of a port file, and what its lines give
abbrev pub PortText : List ℕ → List (ℕ × ℕ) → Type 0
PortText bytes puts = AllGive (lines bytes) puts

-- the line of this number, from 1, is the first that gives nothing and isn't blank
pub record IsFirstBad (bytes : List ℕ) (number : ℕ) : Type 0 where
  pub front : List (List ℕ)
  pub line : List ℕ
  pub back : List (List ℕ)
  pub cut : lines bytes ≡ front ++ line ∷ back
  pub counted : number ≡ length front + 1
  pub puts : List (ℕ × ℕ)
  pub good : AllGive front puts
  pub bad : (put : List (ℕ × ℕ)) → Gives line put → ⊥

-- what each fault says of the bytes
abbrev pub PortSays : List ℕ → PortFault → Type 0
PortSays bytes (faults.BadLine line) = IsFirstBad bytes line
PortSays bytes faults.NoMemory = Unit {0}
