-- The text of tokens, from which they can be read again (docs/LANGUAGE.md, "Texts of tokens").
use Rattle.std.specs.Prelude.{ℕ, zero, suc, ◌+◌, ◌/◌, ◌%◌, nat_lt, if◌then◌else◌, Bool, true, false, List, [], ◌∷◌, ◌++◌, length, codes, decimal, flat_map}
use Rattle.text_base.specs.Hex.{hex_digit, hex4}
use Rattle.c_syntax.specs.declared.token.Punct.TheVariants.{Semicolon, OpenBrace, CloseBrace}
use Rattle.c_syntax.specs.declared.token.Token.{Token}
use Rattle.c_syntax.specs.declared.token.TokenKind.{TokenKind}
use Rattle.c_syntax.specs.declared.token.TokenKind.TheVariants.{Word, Name, Number, Char, Mark}
use Rattle.c_syntax.specs.FixedTexts.{keyword_text, mark_text}
pub use Rattle.c_syntax.specs.TokenSpellings.{HasSpelling}

-- a number in hexadecimal digits without leading zeros, or its last ones where it has more than so many
abbrev pub hexadecimal : ℕ → ℕ → List ℕ
hexadecimal zero n = []
hexadecimal (suc count) n = if nat_lt n 16 then hex_digit n ∷ [] else hexadecimal count (n / 16) ++ hex_digit (n % 16) ∷ []

-- a number of 32 bits, in decimal or not
abbrev pub number_text : ℕ → Bool → List ℕ
number_text value true = decimal value
number_text value false = codes "0x" ++ hexadecimal 8 value

-- a suffix where the number is marked as unsigned
abbrev pub suffix_text : Bool → List ℕ
suffix_text true = codes "u"
suffix_text false = []

-- the spelling that is written of a token
abbrev pub kind_text : TokenKind → List ℕ
kind_text (Word keyword) = keyword_text keyword
kind_text (Name name) = name
kind_text (Number value marked is_decimal) = number_text value is_decimal ++ suffix_text marked
kind_text (Char value) = codes "'\\x" ++ (hex4 value ++ codes "'")
kind_text (Mark mark) = mark_text mark

-- what stands behind it: a line feed behind `;`, `{` and `}`, and else one space
abbrev pub separator : TokenKind → ℕ
separator (Mark Semicolon) = 10
separator (Mark OpenBrace) = 10
separator (Mark CloseBrace) = 10
separator kind = 32

abbrev pub spelled : TokenKind → List ℕ
spelled kind = kind_text kind ++ separator kind ∷ []

abbrev pub tokens_text : List Token → List ℕ
tokens_text tokens = flat_map (λ t. spelled t.kind) tokens

-- tokens of the same kinds, as that text has them from a place on: each with its place and the length of its spelling
abbrev pub placed_from : ℕ → List Token → List Token
placed_from at [] = []
placed_from at (t ∷ ts) =
    record { kind = t.kind; at = at; len = length (kind_text t.kind) } ∷ placed_from (at + (length (kind_text t.kind) + 1)) ts
