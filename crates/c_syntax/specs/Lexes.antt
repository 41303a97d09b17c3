-- The tokens of a text: ISO 9899:1990 6.1, with the choices of docs/LANGUAGE.md, "Tokens". A text is blanks and spellings,
-- one behind another, each spelling the longest that begins at its place.
use Rattle.std.specs.Prelude.{⊤, ◌≡◌, ◌≢◌, ◌⊎◌, ℕ, ◌+◌, ◌≤◌, List, [], ◌∷◌, ◌++◌, length, map}
use Rattle.std.specs.List.{concat}
use Rattle.word_base.specs.Name.{IsWithin}
use Rattle.c_syntax.specs.declared.token.Token.{Token}
use Rattle.c_syntax.specs.declared.token.TokenKind.{TokenKind}
use Rattle.c_syntax.specs.Spelling.{IsSpelling, Means}
use Rattle.c_syntax.specs.declared.limits.TheConstants.{MOST_TOKENS}

-- space, or tab, line feed, vertical tab, form feed and carriage return
abbrev pub IsSpace : ℕ → Type 0
IsSpace c = (c ≡ 32) ⊎ IsWithin 9 13 c

-- `*/` stands nowhere in the text
abbrev pub HasNoCommentEnd : List ℕ → Type 0
HasNoCommentEnd text = (front back : List ℕ) → text ≢ front ++ 42 ∷ 47 ∷ back

-- `/*` and what follows it to the next `*/`
pub record IsComment (text : List ℕ) : Type 0 where
  pub inside : List ℕ
  pub whole : text ≡ 47 ∷ 42 ∷ inside ++ 42 ∷ 47 ∷ []
  pub next : HasNoCommentEnd (inside ++ 42 ∷ [])

-- one byte that is a space, or one comment
abbrev pub IsBlank : List ℕ → Type 0
IsBlank text = ((c : ℕ) × IsSpace c × (text ≡ c ∷ [])) ⊎ IsComment text

-- `/*` stands at the front
abbrev pub OpensComment : List ℕ → Type 0
OpensComment text = (rest : List ℕ) × (text ≡ 47 ∷ 42 ∷ rest)

-- a spelling may stand before the rest of a text: no longer one begins there, and no comment
pub record IsLongest (spelling rest : List ℕ) : Type 0 where
  pub spelled : IsSpelling spelling
  pub longest : (other behind : List ℕ) → spelling ++ rest ≡ other ++ behind → IsSpelling other → length other ≤ length spelling
  pub no_comment : ¬ OpensComment (spelling ++ rest)

-- a text is cut into these
pub data Piece : Type 0 where
  Blank : List ℕ → Piece
  Spelled : List ℕ → TokenKind → Piece

abbrev pub piece_text : Piece → List ℕ
piece_text (Blank text) = text
piece_text (Spelled text kind) = text

abbrev pub pieces_text : List Piece → List ℕ
pieces_text pieces = concat (map piece_text pieces)

-- a piece may stand before the rest of a text
abbrev pub MayStand : Piece → List ℕ → Type 0
MayStand (Blank text) rest = IsBlank text
MayStand (Spelled text kind) rest = IsLongest text rest × Means text kind

-- pieces may stand one behind another before the rest of a text
abbrev pub AllStand : List Piece → List ℕ → Type 0
AllStand [] rest = ⊤
AllStand (piece ∷ pieces) rest = MayStand piece (pieces_text pieces ++ rest) × AllStand pieces rest

-- the tokens of pieces, the first of which stands at a place: each with its own place and length
abbrev pub tokens_from : ℕ → List Piece → List Token
tokens_from at [] = []
tokens_from at (Blank text ∷ pieces) = tokens_from (at + length text) pieces
tokens_from at (Spelled text kind ∷ pieces) = record { kind = kind; at = at; len = length text } ∷ tokens_from (at + length text) pieces

-- the most tokens that a text has
abbrev pub most_tokens : ℕ
most_tokens = MOST_TOKENS

-- a text is cut into pieces up to a rest, and these have the tokens
pub record ReadsTo (text : List ℕ) (tokens : List Token) (rest : List ℕ) : Type 0 where
  pub pieces : List Piece
  pub cut : text ≡ pieces_text pieces ++ rest
  pub stand : AllStand pieces rest
  pub are : tokens ≡ tokens_from 0 pieces

-- the tokens of a whole text
abbrev pub Lexes : List ℕ → List Token → Type 0
Lexes text tokens = ReadsTo text tokens [] × (length tokens ≤ most_tokens)
