-- The spellings of tokens, and what each means: ISO 9899:1990 6.1, with the choices of docs/LANGUAGE.md, "Tokens".
use Rattle.std.specs.Prelude.{◌≡◌, ◌≢◌, ◌⊎◌, ℕ, List, ◌∷◌}
use Rattle.std.specs.List.{AllByRecursion}
use Rattle.word_base.specs.Name.{IsWithin, IsNameStart, IsNamePart, IsName}
use Rattle.c_syntax.specs.declared.token.Keyword.{Keyword}
use Rattle.c_syntax.specs.declared.token.Punct.{Punct}
use Rattle.c_syntax.specs.declared.token.TokenKind.{TokenKind}
use Rattle.c_syntax.specs.declared.token.TokenKind.TheVariants.{Word, Name, Number, Char, Mark}
use Rattle.c_syntax.specs.FixedTexts.{keyword_text, mark_text}
use Rattle.c_syntax.specs.Constants.{IsNumber, IsCharacter}

-- 0 to 9
abbrev pub IsDigit : ℕ → Type 0
IsDigit c = IsWithin 48 57 c

-- a letter, a digit, _ or a dot
abbrev pub IsNumberPart : ℕ → Type 0
IsNumberPart c = IsNamePart c ⊎ (c ≡ 46)

-- a code that begins it, and then codes that are its parts
pub record IsRun (Start Part : ℕ → Type 0) (text : List ℕ) : Type 0 where
  pub first : ℕ
  pub rest : List ℕ
  pub whole : text ≡ first ∷ rest
  pub starts : Start first
  pub parts : AllByRecursion Part rest

-- a letter or _, and then letters, digits and _: a keyword, or a name of any length
abbrev pub IsNameRun : List ℕ → Type 0
IsNameRun text = IsRun IsNameStart IsNamePart text

-- a digit, and then letters, digits, _ and dots, whether that is a number or not
abbrev pub IsNumberRun : List ℕ → Type 0
IsNumberRun text = IsRun IsDigit IsNumberPart text

-- what is read in one piece: a token, a name that is too long, or a number that is wrongly written
pub data IsSpelling (text : List ℕ) : Type 0 where
  OfWord : IsNameRun text → IsSpelling text
  OfNumber : IsNumberRun text → IsSpelling text
  OfCharacter : (value : ℕ) → IsCharacter text value → IsSpelling text
  OfMark : (mark : Punct) → text ≡ mark_text mark → IsSpelling text

-- what a spelling means, for each kind of token
abbrev pub Means : List ℕ → TokenKind → Type 0
Means text (Word keyword) = text ≡ keyword_text keyword
Means text (Name name) = (name ≡ text) × IsName text × ((keyword : Keyword) → text ≢ keyword_text keyword)
Means text (Number value marked decimal) = IsNumber text value marked decimal
Means text (Char value) = IsCharacter text value
Means text (Mark mark) = text ≡ mark_text mark
