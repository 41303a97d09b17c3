-- Directive lines and their forms (docs/LANGUAGE.md, "Macros and sections").
use Rattle.std.specs.Prelude.{◌≡◌, ◌≢◌, ⊤, ℕ, ◌+◌, if◌then◌else◌, List, [], ◌∷◌, length, bytes_eq, codes}
use Rattle.word_base.specs.Name.{IsName, IsNamePart}
use Rattle.c_lexer.specs.Front.{IsFrontRun}
use Rattle.c_macro.specs.declared.verb.Verb.{Verb}
use Rattle.c_macro.specs.declared.verb.Verb.TheVariants.{Alone, Pragma, Define, Undef, Ifdef, Ifndef, If, Elif, Else, Endif, Unknown}
use Rattle.c_macro.specs.Lines.{IsAfterBlanks}

-- a line is a directive: `#` is its first byte after blanks. After blanks its word follows, the longest run of letters,
-- digits and _, and then a rest. The places of `#` and of the rest are counted from the line's first byte
pub record IsDirective (line : List ℕ) (hash : ℕ) (word : List ℕ) (at : ℕ) (rest : List ℕ) : Type 0 where
  pub following : List ℕ
  pub first : IsAfterBlanks line (35 ∷ following)
  pub hash_placed : hash + length (35 ∷ following) ≡ length line
  pub after : List ℕ
  pub blanks : IsAfterBlanks following after
  pub run : IsFrontRun IsNamePart after word rest
  pub placed : at + length rest ≡ length line

-- a line that is no directive
pub record IsOther (line : List ℕ) : Type 0 where
  pub by : (following : List ℕ) → IsAfterBlanks line (35 ∷ following) → ⊥

-- what a directive's word asks for
abbrev pub verb_of : List ℕ → Verb
verb_of [] = Alone
verb_of (c ∷ word) =
    if bytes_eq (c ∷ word) (codes "pragma") then Pragma
    else if bytes_eq (c ∷ word) (codes "define") then Define
    else if bytes_eq (c ∷ word) (codes "undef") then Undef
    else if bytes_eq (c ∷ word) (codes "ifdef") then Ifdef
    else if bytes_eq (c ∷ word) (codes "ifndef") then Ifndef
    else if bytes_eq (c ∷ word) (codes "if") then If
    else if bytes_eq (c ∷ word) (codes "else") then Else
    else if bytes_eq (c ∷ word) (codes "elif") then Elif
    else if bytes_eq (c ∷ word) (codes "endif") then Endif
    else Unknown

-- the first thing in a text after blanks is a name (or a keyword) at a place, and a rest follows it
pub record IsNamed (text : List ℕ) (at : ℕ) (name rest : List ℕ) : Type 0 where
  pub after : List ℕ
  pub blanks : IsAfterBlanks text after
  pub run : IsFrontRun IsNamePart after name rest
  pub is : IsName name
  pub placed : at + length after ≡ length text

abbrev pub OpensParenthesis : List ℕ → Type 0
OpensParenthesis text = (rest : List ℕ) × (text ≡ 40 ∷ rest)

-- a name, and nothing but blanks follows it
abbrev pub IsLoneName : List ℕ → List ℕ → Type 0
IsLoneName text name = (at : ℕ) × (rest : List ℕ) × IsNamed text at name rest × IsAfterBlanks rest []

-- no directive of a kept line has this word and this rest
abbrev pub HasNoForm : Verb → List ℕ → Type 0
HasNoForm Alone rest = rest ≢ []
HasNoForm Pragma rest = ⊥
HasNoForm Else rest = ⊥
HasNoForm Endif rest = ⊥
HasNoForm Define rest = (at : ℕ) (name following : List ℕ) → IsNamed rest at name following → OpensParenthesis following
HasNoForm Undef rest = (name : List ℕ) → IsLoneName rest name → ⊥
HasNoForm Ifdef rest = (name : List ℕ) → IsLoneName rest name → ⊥
HasNoForm Ifndef rest = (name : List ℕ) → IsLoneName rest name → ⊥
HasNoForm If rest = ⊤
HasNoForm Elif rest = ⊤
HasNoForm Unknown rest = ⊤
