-- The lines of a source, and what is read of one (docs/LANGUAGE.md, "Macros and sections").
use Rattle.std.specs.Prelude.{◌≡◌, ◌≢◌, ℕ, suc, ◌+◌, ◌==◌, ◌&&◌, true, false, if◌then◌else◌, List, [], ◌∷◌, ◌++◌, length, Option, Some, None}
use Rattle.std.specs.List.{concat, AllByRecursion}
use Rattle.c_syntax.specs.declared.token.Token.{Token}
use Rattle.c_syntax.specs.Lexes.{IsBlank, pieces_text, Piece, AllStand, tokens_from}
use Rattle.c_spellings.specs.Front.{HasNoBlank}
use Rattle.c_lexer.specs.declared.fault.LexFault.{LexFault}
use Rattle.c_lexer.specs.declared.fault.LexFault.TheVariants.{OpenComment}
use Rattle.c_lexer.specs.declared.fault.Flaw.{Flaw}
use Rattle.c_lexer.specs.declared.fault.Flaw.TheVariants as flaws
use Rattle.c_lexer.specs.LexFaults.{HasFlaw, fault_of}
use Rattle.c_macro.specs.declared.lines.LineSize.{LineSize}

-- a line with so many bytes in front
abbrev pub longer : ℕ → LineSize → LineSize
longer n line = record { bytes = n + line.bytes; is_open = line.is_open }

-- a line of so many bytes, up to its end
abbrev pub closed_line : ℕ → LineSize
closed_line n = record { bytes = n; is_open = false }

-- the rest of a text's first line, outside a comment or within one of which so many bytes were read: it ends with the
-- first line feed outside a comment, at the text's end, or before a comment that isn't closed
abbrev pub line_within : Option ℕ → List ℕ → LineSize
line_within None [] = closed_line 0
line_within None (c ∷ []) = closed_line 1
line_within None (c ∷ d ∷ rest) =
    if c == 10 then closed_line 1
    else if (c == 47) && (d == 42) then line_within (Some 2) rest
    else longer 1 (line_within None (d ∷ rest))
line_within (Some read) [] = record { bytes = 0; is_open = true }
line_within (Some read) (c ∷ []) = record { bytes = 0; is_open = true }
line_within (Some read) (c ∷ d ∷ rest) =
    if (c == 42) && (d == 47) then longer (suc (suc read)) (line_within None rest)
    else line_within (Some (suc read)) (d ∷ rest)

abbrev pub first_line : List ℕ → LineSize
first_line text = line_within None text

-- the comment that is open at the end of a line at a place
abbrev pub open_comment : ℕ → LineSize → Option LexFault
open_comment at line = if line.is_open then Some (OpenComment (at + line.bytes)) else None

-- what follows the blanks at the front
pub record IsAfterBlanks (text rest : List ℕ) : Type 0 where
  pub blanks : List (List ℕ)
  pub cut : text ≡ concat blanks ++ rest
  pub are : AllByRecursion IsBlank blanks
  pub all : HasNoBlank rest

-- reading ends at a place before a rest: at the text's end, or at a flaw
abbrev pub EndsAt : ℕ → List ℕ → Option LexFault → Type 0
EndsAt at rest None = rest ≡ []
EndsAt at rest (Some fault) = (flaw : Flaw) × HasFlaw rest flaw × (flaw ≢ flaws.NoMemory) × (fault ≡ fault_of flaw at)

-- a text at a place is cut into pieces up to a rest, and these have the tokens
pub record IsReadTo (at : ℕ) (text : List ℕ) (tokens : List Token) (rest : List ℕ) : Type 0 where
  pub pieces : List Piece
  pub cut : text ≡ pieces_text pieces ++ rest
  pub stand : AllStand pieces rest
  pub are : tokens ≡ tokens_from at pieces

-- the tokens of a text at a place, up to its end or to its first flaw
abbrev pub IsRead : ℕ → List ℕ → List Token → Option LexFault → Type 0
IsRead at text tokens end =
    (rest : List ℕ) × (place : ℕ) × IsReadTo at text tokens rest × (place + length rest ≡ at + length text) × EndsAt place rest end
