-- Integer and character constants: ISO 9899:1990 6.1.3.2 and 6.1.3.4, of which docs/LANGUAGE.md, "Tokens", has the part that
-- is read. A text is a list of ASCII codes.
use Rattle.std.specs.Prelude.{◌==◌, if◌then◌else◌, ◌≡◌, ◌≢◌, ◌⊎◌, ℕ, ◌+◌, ◌*◌, ◌<◌, ◌≤◌, min, Bool, true, false, List, [], ◌∷◌, ◌++◌, length, fold, Option, Some, None}
use Rattle.std.specs.List.{AllByRecursion}
use Rattle.std.specs.Char.{digit_value}
use Rattle.word_base.specs.Name.{IsWithin}

-- a row of digits of a base: 0 to 9, and a to f in either case, as far as the base has them
pub record AreDigits (base : ℕ) (text : List ℕ) : Type 0 where
  pub some : 0 < length text
  pub each : AllByRecursion (λ c. digit_value c < base) text

-- the number that digits of a base stand for
abbrev pub number_of : ℕ → List ℕ → ℕ
number_of base text = fold (λ n c. n * base + digit_value c) 0 text

-- the three ways in which numbers are written
pub data Radix : Type 0 where
  Decimal : Radix
  Octal : Radix
  Hexadecimal : Radix

-- a number without a suffix: a decimal one begins with 1 to 9, an octal one with 0, a hexadecimal one with 0x or 0X
abbrev pub IsBare : Radix → List ℕ → ℕ → Type 0
IsBare Decimal text n = ((first : ℕ) × (rest : List ℕ) × (text ≡ first ∷ rest) × (first ≢ 48)) × AreDigits 10 text × (n ≡ number_of 10 text)
IsBare Octal text n = ((rest : List ℕ) × (text ≡ 48 ∷ rest)) × AreDigits 8 text × (n ≡ number_of 8 text)
IsBare Hexadecimal text n = (x : ℕ) × (digits : List ℕ) × (text ≡ 48 ∷ x ∷ digits) × ((x ≡ 120) ⊎ (x ≡ 88)) × AreDigits 16 digits × (n ≡ number_of 16 digits)

-- u or U where there is a suffix, and nothing where there is none
abbrev pub IsSuffix : Bool → List ℕ → Type 0
IsSuffix true text = (text ≡ 117 ∷ []) ⊎ (text ≡ 85 ∷ [])
IsSuffix false text = text ≡ []

abbrev pub is_decimal : Radix → Bool
is_decimal Decimal = true
is_decimal Octal = false
is_decimal Hexadecimal = false

-- the greatest value that a token keeps
abbrev pub greatest_value : ℕ
greatest_value = 4294967295

-- the text of an integer constant, with its value, whether it is marked as unsigned by a suffix, and whether it is decimal
pub record IsNumber (text : List ℕ) (value : ℕ) (marked decimal : Bool) : Type 0 where
  pub radix : Radix
  pub number : ℕ
  pub bare : List ℕ
  pub suffix : List ℕ
  pub joined : text ≡ bare ++ suffix
  pub reads : IsBare radix bare number
  pub ends : IsSuffix marked suffix
  pub kept : value ≡ min greatest_value number
  pub based : decimal ≡ is_decimal radix

-- what stands beside a number in a table of pairs
abbrev pub beside : ℕ → List (ℕ × ℕ) → Option ℕ
beside key [] = None
beside key (pair ∷ pairs) = if key == pair.0 then Some pair.1 else beside key pairs

-- the signs and letters that may stand behind a backslash: ' " ? and the backslash itself, a, b, f, n, r, t and v, each with the
-- character that it stands for
abbrev pub escapes : List (ℕ × ℕ)
escapes = (39, 39) ∷ (34, 34) ∷ (63, 63) ∷ (92, 92) ∷ (97, 7) ∷ (98, 8) ∷ (102, 12) ∷ (110, 10) ∷ (114, 13) ∷ (116, 9) ∷ (118, 11) ∷ []

-- what stands between the quotes of a character constant, and its value
pub data IsItem (text : List ℕ) (value : ℕ) : Type 0 where
  -- a printable character, other than ' and the backslash, stands for its code
  Plain : text ≡ value ∷ [] → IsWithin 32 126 value → value ≢ 39 → value ≢ 92 → IsItem text value
  Escape : (sign : ℕ) → text ≡ 92 ∷ sign ∷ [] → beside sign escapes ≡ Some value → IsItem text value
  -- one to three octal digits
  OctalEscape : (digits : List ℕ) → text ≡ 92 ∷ digits → AreDigits 8 digits → length digits ≤ 3 → value ≡ number_of 8 digits → IsItem text value
  -- x and one to four hexadecimal digits
  HexEscape : (digits : List ℕ) → text ≡ 92 ∷ 120 ∷ digits → AreDigits 16 digits → length digits ≤ 4 → value ≡ number_of 16 digits → IsItem text value

-- the text of a character constant, and its value
pub record IsCharacter (text : List ℕ) (value : ℕ) : Type 0 where
  pub item : List ℕ
  pub quoted : text ≡ 39 ∷ item ++ 39 ∷ []
  pub stands : IsItem item value
