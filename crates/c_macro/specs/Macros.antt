-- Macros, and what replaces a token (docs/LANGUAGE.md, "Macros and sections").
use Rattle.std.specs.Option.{option_map_or}
use Rattle.std.specs.Prelude.{ℕ, zero, suc, ◌+◌, nat_lt, if◌then◌else◌, List, [], ◌∷◌, ◌++◌, Option, Some, None, Result, Ok, Err, bytes_eq, length, flat_map, option_map, option_and_then}
use Rattle.c_syntax.specs.declared.token.Token.{Token}
use Rattle.c_syntax.specs.declared.token.TokenKind.{TokenKind}
use Rattle.c_syntax.specs.declared.token.TokenKind.TheVariants.{Word, Name}
use Rattle.c_syntax.specs.FixedTexts.{keyword_text}
use Rattle.c_syntax.specs.Lexes.{most_tokens}
use Rattle.c_macro.specs.declared.fault.MacroFault.{MacroFault}
use Rattle.c_macro.specs.declared.fault.MacroFault.TheVariants.{TooMany}
use Rattle.c_macro.specs.declared.fault.MacroLimit.TheVariants.{Tokens, Replacements}

-- which names are macros, and the kinds of the tokens of their bodies
abbrev pub Table : Type 0
Table = List ℕ → Option (List TokenKind)

abbrev pub no_macros : Table
no_macros name = None

-- the macros but one of them
abbrev pub without : List ℕ → Table → Table
without name table other = if bytes_eq name other then None else table other

-- the macros, with a name's body
abbrev pub with_body : List ℕ → List TokenKind → Table → Table
with_body name body table other = if bytes_eq name other then Some body else table other

pub record Macro : Type 0 where
  pub name : List ℕ
  pub body : List TokenKind

-- the spelling of a name or a keyword
abbrev pub spelling_of : TokenKind → Option (List ℕ)
spelling_of (Word keyword) = Some (keyword_text keyword)
spelling_of (Name name) = Some name
spelling_of kind = None

abbrev pub macro_named : Table → List ℕ → Option Macro
macro_named table name = option_map (λ body. record { name = name; body = body }) (table name)

-- the macro that a token of this kind is
abbrev pub macro_of : Table → TokenKind → Option Macro
macro_of table kind = option_and_then (macro_named table) (spelling_of kind)

-- what happens to a token: it is answered, or a macro is replaced
pub data Step : Type 0 where
  Answers : Token → Step
  Replaces : Step

-- a token of this kind with a place and a length
abbrev pub placed : ℕ → ℕ → TokenKind → Token
placed at len kind = record { kind = kind; at = at; len = len }

-- the steps of a token where at most so many macros can be replaced: a macro by its body, in which all of these but it
-- are replaced in turn. The tokens of the body have the place and length of the token
abbrev pub steps : ℕ → Table → Token → List Step
steps zero table t = Answers t ∷ []
steps (suc left) table t =
    option_map_or
    (λ macro. Replaces ∷ flat_map (λ kind. steps left (without macro.name table) (placed t.at t.len kind)) macro.body)
    (macro_of table t.kind)
    (Answers t ∷ [])

-- the most macros that are defined at once
abbrev pub most_macros : ℕ
most_macros = 1000

-- the tokens that are answered, and how many macros were replaced
pub record Output : Type 0 where
  pub tokens : List Token
  pub replacements : ℕ

abbrev pub most_replacements : ℕ
most_replacements = 1000000

-- one token more
abbrev pub with_token : Output → Token → Output
with_token out t = record { tokens = out.tokens ++ t ∷ []; replacements = out.replacements }

-- one replacement more
abbrev pub one_more : Output → Output
one_more out = record { tokens = out.tokens; replacements = suc out.replacements }

-- the output after steps, up to the first that passes a limit
abbrev pub taken : Output → List Step → Result Output MacroFault
taken out [] = Ok out
taken out (Answers t ∷ rest) =
    if nat_lt (length out.tokens) most_tokens then taken (with_token out t) rest else Err (TooMany Tokens (most_tokens + 1))
taken out (Replaces ∷ rest) =
    if nat_lt out.replacements most_replacements
    then taken (one_more out) rest
    else Err (TooMany Replacements (most_replacements + 1))
