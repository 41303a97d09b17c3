-- The words `extern` that are dropped: those in front of an external of a file (docs/LANGUAGE.md, "Programs of several files";
-- ISO 9899:1990 6.5.1 and 6.7).
use Rattle.std.specs.Prelude.{ℕ, zero, suc, ◌&&◌, Bool, true, false, if◌then◌else◌, List, [], ◌∷◌, ◌++◌}
use Rattle.c_tree.specs.c_syntax.declared.token.Token.{Token}
use Rattle.c_tree.specs.c_syntax.declared.token.TokenKind.{TokenKind}
use Rattle.c_tree.specs.c_syntax.declared.token.TokenKind.TheVariants.{Word, Mark}
use Rattle.c_tree.specs.c_syntax.declared.token.Keyword.TheVariants.{Extern}
use Rattle.c_tree.specs.c_syntax.declared.token.Punct.TheVariants.{OpenBrace, CloseBrace, Semicolon, Assign}

-- where the tokens before a token leave off: at the start of an external; within one, outside braces, and whether `=` is the last
-- token; or within so many braces more than one, which are those of a list or of a body
pub data Position : Type 0 where
  AtStart : Position
  Within : Bool → Position
  Braced : Bool → ℕ → Position

-- outside braces: a `;` ends an external, and a brace after an `=` is that of a list
abbrev pub outside : Bool → TokenKind → Position
outside assigned (Mark Semicolon) = AtStart
outside assigned (Mark OpenBrace) = Braced assigned 0
outside assigned (Mark Assign) = Within true
outside assigned kind = Within false

-- within braces: the last one ends a body, and with it an external, or a list
abbrev pub inside : Bool → ℕ → TokenKind → Position
inside list depth (Mark OpenBrace) = Braced list (suc depth)
inside list zero (Mark CloseBrace) = if list then Within false else AtStart
inside list (suc depth) (Mark CloseBrace) = Braced list depth
inside list depth kind = Braced list depth

abbrev pub after_token : Position → TokenKind → Position
after_token AtStart kind = outside false kind
after_token (Within assigned) kind = outside assigned kind
after_token (Braced list depth) kind = inside list depth kind

abbrev pub is_extern : TokenKind → Bool
is_extern (Word Extern) = true
is_extern kind = false

abbrev pub is_start : Position → Bool
is_start AtStart = true
is_start position = false

abbrev pub some_follow : List Token → Bool
some_follow [] = false
some_follow (t ∷ ts) = true

-- `extern` is dropped at the start of an external, where a token follows
abbrev pub is_dropped : Position → Token → List Token → Bool
is_dropped position t rest = is_start position && (is_extern t.kind && some_follow rest)

-- the tokens that are left
abbrev pub kept : Position → List Token → List Token
kept position [] = []
kept position (t ∷ ts) =
    if is_dropped position t ts then kept (Within false) ts else t ∷ kept (after_token position t.kind) ts

abbrev pub without_externs : List Token → List Token
without_externs tokens = kept AtStart tokens

-- the places of the tokens after those that are dropped
abbrev pub first_at : List Token → List ℕ
first_at [] = []
first_at (t ∷ ts) = t.at ∷ []

abbrev pub extern_places : Position → List Token → List ℕ
extern_places position [] = []
extern_places position (t ∷ ts) =
    if is_dropped position t ts then first_at ts ++ extern_places (Within false) ts else extern_places (after_token position t.kind) ts
