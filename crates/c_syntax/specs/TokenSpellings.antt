-- What a text can have as a token (docs/LANGUAGE.md, "Tokens").
use Rattle.std.specs.Prelude.{◌≡◌, ◌≢◌, ◌≤◌, ◌<◌, ◌^◌, true}
use Rattle.word_base.specs.Name.{IsName}
use Rattle.c_syntax.specs.declared.token.Keyword.{Keyword}
use Rattle.c_syntax.specs.declared.token.TokenKind.{TokenKind}
use Rattle.c_syntax.specs.declared.token.TokenKind.TheVariants.{Word, Name, Number, Char, Mark}
use Rattle.c_syntax.specs.FixedTexts.{keyword_text}
use Rattle.c_syntax.specs.Constants.{greatest_value}

-- a name that is one and no keyword, no decimal number 0, and no value beyond its bits
abbrev pub HasSpelling : TokenKind → Type 0
HasSpelling (Word keyword) = Unit {0}
HasSpelling (Name name) = IsName name × ((keyword : Keyword) → name ≢ keyword_text keyword)
HasSpelling (Number value marked is_decimal) = (value ≤ greatest_value) × (is_decimal ≡ true → value ≢ 0)
HasSpelling (Char value) = value < 2 ^ 16
HasSpelling (Mark mark) = Unit {0}
