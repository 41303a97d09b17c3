-- What stands at the front of the tokens that are left.
use Rattle.std.specs.Prelude.{◌&&◌, ℕ, Bool, true, false, List, [], ◌∷◌, Option, Some, None}
use Rattle.c_syntax.specs.declared.token.Token.{Token}
use Rattle.c_syntax.specs.declared.token.TokenKind.{TokenKind}
use Rattle.c_syntax.specs.declared.token.TokenKind.TheVariants as token
use Rattle.c_syntax.specs.declared.token.Keyword.{Keyword}
use Rattle.c_syntax.specs.declared.token.Keyword.TheVariants as keyword
use Rattle.c_syntax.specs.declared.token.Punct.{Punct}
use Rattle.c_syntax.specs.declared.token.Punct.TheVariants as mark
use Rattle.c_syntax.specs.declared.syntax.SpecWord.{SpecWord}
use Rattle.c_syntax.specs.Lookahead.{spec_of}

-- the tokens behind the first
abbrev pub behind : List Token → List Token
behind [] = []
behind (t ∷ more) = more

abbrev pub kind_at : List Token → Option TokenKind
kind_at [] = None
kind_at (t ∷ more) = Some t.kind

-- the mark, keyword or name that a kind is
abbrev pub kind_mark : TokenKind → Option Punct
kind_mark (token.Mark m) = Some m
kind_mark kind = None

abbrev pub kind_word : TokenKind → Option Keyword
kind_word (token.Word k) = Some k
kind_word kind = None

abbrev pub kind_name : TokenKind → Option (List ℕ)
kind_name (token.Name name) = Some name
kind_name kind = None

abbrev pub mark_at : List Token → Option Punct
mark_at [] = None
mark_at (t ∷ more) = kind_mark t.kind

abbrev pub word_at : List Token → Option Keyword
word_at [] = None
word_at (t ∷ more) = kind_word t.kind

abbrev pub name_at : List Token → Option (List ℕ)
name_at [] = None
name_at (t ∷ more) = kind_name t.kind

-- whether `(` stands there, and a word of a type behind it
abbrev pub is_open : Option Punct → Bool
is_open (Some mark.OpenParen) = true
is_open other = false

abbrev pub is_there : Option SpecWord → Bool
is_there (Some w) = true
is_there None = false

abbrev pub opens : Bool → Bool → Bool
opens true spec = spec
opens false spec = false

abbrev pub opens_type : List Token → Bool
opens_type [] = false
opens_type (t ∷ more) = opens (is_open (kind_mark t.kind)) (is_there (spec_of more))

-- `void`, and what may stand behind it where it means that there is no parameter
abbrev pub is_void_kind : TokenKind → Bool
is_void_kind (token.Word keyword.Void) = true
is_void_kind kind = false

abbrev pub is_close_kind : TokenKind → Bool
is_close_kind (token.Mark mark.CloseParen) = true
is_close_kind kind = false

abbrev pub is_separator_kind : TokenKind → Bool
is_separator_kind (token.Mark mark.CloseParen) = true
is_separator_kind (token.Mark mark.Comma) = true
is_separator_kind kind = false

-- whether the one word `void` stands there before `)`
abbrev pub is_void_alone : List Token → Bool
is_void_alone [] = false
is_void_alone (t ∷ []) = false
is_void_alone (t ∷ u ∷ more) = is_void_kind t.kind && is_close_kind u.kind

-- whether the one word `void` stands there before `,` or `)`
abbrev pub is_void_word : List Token → Bool
is_void_word [] = false
is_void_word (t ∷ []) = false
is_void_word (t ∷ u ∷ more) = is_void_kind t.kind && is_separator_kind u.kind

-- whether `,` or `)` stands there
abbrev pub is_separator_at : List Token → Bool
is_separator_at [] = false
is_separator_at (t ∷ more) = is_separator_kind t.kind
