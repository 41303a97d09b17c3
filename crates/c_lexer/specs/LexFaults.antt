-- Why a text has no tokens: what stands at the place of each fault (docs/LANGUAGE.md, "Tokens").
use Rattle.std.specs.Prelude.{◌≡◌, ◌≢◌, ◌⊎◌, ⊤, ℕ, ◌+◌, ◌<◌, ◌≤◌, Bool, List, ◌∷◌, ◌++◌, length}
use Rattle.word_base.specs.Name.{IsNamePart}
use Rattle.c_syntax.specs.declared.token.Token.{Token}
use Rattle.c_syntax.specs.declared.token.Punct.{Punct}
use Rattle.c_syntax.specs.FixedTexts.{mark_text}
use Rattle.c_syntax.specs.Constants.{IsNumber, IsCharacter}
use Rattle.c_syntax.specs.Spelling.{IsNameRun, IsNumberRun}
use Rattle.c_syntax.specs.Lexes.{IsSpace, HasNoCommentEnd, IsLongest, most_tokens, ReadsTo}
use Rattle.c_lexer.specs.declared.fault.LexFault.{LexFault}
use Rattle.c_lexer.specs.declared.fault.LexFault.TheVariants as faults
use Rattle.c_lexer.specs.declared.fault.Flaw.{Flaw}
use Rattle.c_lexer.specs.declared.fault.Flaw.TheVariants as flaws

-- at the front a byte that is no space, no letter, digit or _, and no quote, and with which no mark begins
pub record HasBadByte (text : List ℕ) : Type 0 where
  pub byte : ℕ
  pub rest : List ℕ
  pub front : text ≡ byte ∷ rest
  pub no_space : IsSpace byte → ⊥
  pub no_name_part : IsNamePart byte → ⊥
  pub no_quote : byte ≢ 39
  pub no_mark : (mark : Punct) (behind : List ℕ) → text ≢ mark_text mark ++ behind

-- `/*` at the front, and no `*/` behind it
pub record HasOpenComment (text : List ℕ) : Type 0 where
  pub inside : List ℕ
  pub front : text ≡ 47 ∷ 42 ∷ inside
  pub unclosed : HasNoCommentEnd inside

-- at the front a digit and all that belongs to it, and together they are no number
pub record HasBadNumber (text : List ℕ) : Type 0 where
  pub spelling : List ℕ
  pub rest : List ℕ
  pub front : text ≡ spelling ++ rest
  pub number : IsNumberRun spelling
  pub longest : IsLongest spelling rest
  pub bad : (value : ℕ) (marked decimal : Bool) → IsNumber spelling value marked decimal → ⊥

-- a quote at the front, and no character constant
pub record HasBadQuote (text : List ℕ) : Type 0 where
  pub rest : List ℕ
  pub front : text ≡ 39 ∷ rest
  pub bad : (spelling behind : List ℕ) (value : ℕ) → text ≡ spelling ++ behind → IsCharacter spelling value → ⊥

-- a name at the front that is too long
pub record HasLongName (text : List ℕ) : Type 0 where
  pub spelling : List ℕ
  pub rest : List ℕ
  pub front : text ≡ spelling ++ rest
  pub name : IsNameRun spelling
  pub longest : IsLongest spelling rest
  pub long : 127 < length spelling

-- what each flaw says of the text at whose front it is
abbrev pub HasFlaw : List ℕ → Flaw → Type 0
HasFlaw text flaws.BadByte = HasBadByte text
HasFlaw text flaws.OpenComment = HasOpenComment text
HasFlaw text flaws.BadConstant = HasBadNumber text ⊎ HasBadQuote text
HasFlaw text flaws.LongName = HasLongName text
HasFlaw text flaws.NoMemory = ⊤

-- the fault of a flaw at a place
abbrev pub fault_of : Flaw → ℕ → LexFault
fault_of flaws.BadByte at = faults.BadByte at
fault_of flaws.OpenComment at = faults.OpenComment at
fault_of flaws.BadConstant at = faults.BadConstant at
fault_of flaws.LongName at = faults.LongName at
fault_of flaws.NoMemory at = faults.NoMemory

-- up to a place a text is blanks and at most 200,000 tokens, and a flaw stands there
pub record StopsAt (text : List ℕ) (at : ℕ) (flaw : Flaw) : Type 0 where
  pub tokens : List Token
  pub rest : List ℕ
  pub reads : ReadsTo text tokens rest
  pub few : length tokens ≤ most_tokens
  pub place : at + length rest ≡ length text
  pub has : HasFlaw rest flaw

-- 200,001 tokens come before any flaw
pub record HasTooMany (text : List ℕ) (count : ℕ) : Type 0 where
  pub tokens : List Token
  pub rest : List ℕ
  pub reads : ReadsTo text tokens rest
  pub one_more : length tokens ≡ most_tokens + 1
  pub counted : count ≡ most_tokens + 1

-- what each fault says of a text; memory may be wanting at any
abbrev pub Says : List ℕ → LexFault → Type 0
Says text (faults.BadByte at) = StopsAt text at flaws.BadByte
Says text (faults.OpenComment at) = StopsAt text at flaws.OpenComment
Says text (faults.BadConstant at) = StopsAt text at flaws.BadConstant
Says text (faults.LongName at) = StopsAt text at flaws.LongName
Says text (faults.TooManyTokens count) = HasTooMany text count
Says text faults.NoMemory = ⊤
