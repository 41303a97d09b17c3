-- What stands at the front of a text, and what is behind it: the parts in which a text is read.
use Rattle.std.specs.Prelude.{◌≡◌, ◌≢◌, ◌⊎◌, ℕ, List, ◌∷◌, ◌++◌, length}
use Rattle.std.specs.List.{AllByRecursion}
use Rattle.word_base.specs.Name.{IsNamePart}
use Rattle.c_syntax.specs.declared.token.TokenKind.{TokenKind}
use Rattle.c_syntax.specs.Constants.{IsItem, IsCharacter}
use Rattle.c_syntax.specs.Spelling.{Means}
use Rattle.c_syntax.specs.Lexes.{IsLongest}

-- the first byte is of a kind
abbrev pub BeginsWith : (ℕ → Type 0) → List ℕ → Type 0
BeginsWith Kind text = (c : ℕ) × (rest : List ℕ) × (text ≡ c ∷ rest) × Kind c

abbrev pub IsQuote : ℕ → Type 0
IsQuote c = c ≡ 39

-- neither a part of a name nor a quote
abbrev pub IsSign : ℕ → Type 0
IsSign c = (IsNamePart c → ⊥) × (c ≢ 39)

-- no byte is a quote
abbrev pub HasNoQuote : List ℕ → Type 0
HasNoQuote text = AllByRecursion (λ c. c ≢ 39) text

-- a backslash and the byte behind it, or one byte
abbrev pub IsHeadSize : List ℕ → ℕ → Type 0
IsHeadSize text size = ((size ≡ 2) × (rest : List ℕ) × (text ≡ 92 ∷ rest)) ⊎ ((size ≡ 1) × ((rest : List ℕ) → text ≢ 92 ∷ rest))

-- no item of a character constant stands between quotes at the front
abbrev pub HasNoItem : List ℕ → Type 0
HasNoItem text = (item rest : List ℕ) (value : ℕ) → IsItem item value → text ≢ 39 ∷ item ++ 39 ∷ rest

-- a text between quotes, and behind them; no other item stands there
pub record IsQuoted (text item rest : List ℕ) : Type 0 where
  pub front : text ≡ 39 ∷ item ++ 39 ∷ rest
  pub only : (other behind : List ℕ) (value : ℕ) → IsItem other value → text ≡ 39 ∷ other ++ 39 ∷ behind → other ≡ item

-- behind a character constant of this value
pub record IsBehindCharacter (text : List ℕ) (value : ℕ) (rest : List ℕ) : Type 0 where
  pub spelling : List ℕ
  pub front : text ≡ spelling ++ rest
  pub is : IsCharacter spelling value

-- the longest spelling at the front has so many bytes, and this meaning
pub record IsToken (text : List ℕ) (kind : TokenKind) (size : ℕ) : Type 0 where
  pub spelling : List ℕ
  pub rest : List ℕ
  pub front : text ≡ spelling ++ rest
  pub sized : size ≡ length spelling
  pub longest : IsLongest spelling rest
  pub means : Means spelling kind

-- bytes of a kind stand at the front, and none behind them
pub record IsFrontRun (Part : ℕ → Type 0) (text run rest : List ℕ) : Type 0 where
  pub front : text ≡ run ++ rest
  pub parts : AllByRecursion Part run
  pub ends : (c : ℕ) (behind : List ℕ) → rest ≡ c ∷ behind → Part c → ⊥
