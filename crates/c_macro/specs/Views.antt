-- What the code reads of a line, in the words of the definitions.
use Rattle.std.specs.Prelude.{◌≡◌, ◌≢◌, ◌⊎◌, ◌<◌, ℕ, ◌+◌, ◌==◌, if◌then◌else◌, List, [], ◌++◌, length, map, get_or, Some, None}
use Rattle.c_syntax.specs.declared.token.Token.{Token}
use Rattle.c_syntax.specs.declared.token.TokenKind.{TokenKind}
use Rattle.c_lexer.specs.declared.fault.LexFault.{LexFault}
use Rattle.c_lexer.specs.declared.fault.Flaw.{Flaw}
use Rattle.c_lexer.specs.declared.fault.Flaw.TheVariants as flaws
use Rattle.c_lexer.specs.LexFaults.{fault_of}
use Rattle.c_macro.specs.declared.fault.MacroFault.{MacroFault}
use Rattle.c_macro.specs.declared.fault.MacroFault.TheVariants as faults
use Rattle.c_macro.specs.declared.directives.Directive.{Directive}
use Rattle.c_macro.specs.declared.reader.Reader.{Reader}
use Rattle.c_macro.specs.Lines.{first_line, closed_line, longer, IsReadTo, IsRead}
use Rattle.c_macro.specs.Directives.{IsDirective}

-- what follows the first part of a text, which is a comment or a byte: a line feed ends the text's first line, and after
-- another part it goes on
pub record IsAfterPart (text rest : List ℕ) : Type 0 where
  pub part : List ℕ
  pub whole : text ≡ part ++ rest
  pub some : 0 < length part
  pub line : first_line text ≡ (if get_or text 0 0 == 10 then closed_line (length part) else longer (length part) (first_line rest))

abbrev pub IsDirectiveOf : List ℕ → Directive → Type 0
IsDirectiveOf line d = IsDirective line d.hash d.word.now d.at d.rest.now

-- the fault of a flaw at a place
abbrev pub IsFaultOf : Flaw → ℕ → MacroFault → Type 0
IsFaultOf flaw at fault = (flaw ≡ flaws.NoMemory → fault ≡ faults.NoMemory) × (flaw ≢ flaws.NoMemory → fault ≡ faults.Lex (fault_of flaw at))

-- a reader goes over these tokens: whatever of the line was read before, they are read next
abbrev pub ReadsOn : Reader → Reader → List Token → Type 0
ReadsOn old new tokens = (new.end ≡ old.end)
    × ((at : ℕ) (text : List ℕ) (before : List Token) → at + length text ≡ old.end
    → IsReadTo at text before old.rest.now → IsReadTo at text (before ++ tokens) new.rest.now)

-- nothing but blanks is left
abbrev pub IsAtEnd : Reader → Reader → Type 0
IsAtEnd old new = ReadsOn old new [] × (new.rest.now ≡ [])

-- a reader finds no memory, or a flaw: whatever of the line was read before, reading ends there
abbrev pub IsFlawed : Reader → MacroFault → Type 0
IsFlawed old fault = (fault ≡ faults.NoMemory)
    ⊎ ((lex : LexFault) × (fault ≡ faults.Lex lex)
    × ((at : ℕ) (text : List ℕ) (before : List Token) → at + length text ≡ old.end
    → IsReadTo at text before old.rest.now → IsRead at text before (Some lex)))

-- the kinds of the tokens of a text that ends at a place
abbrev pub IsBody : List ℕ → ℕ → List TokenKind → Type 0
IsBody text end body = (at : ℕ) → at + length text ≡ end
    → (tokens : List Token) × IsRead at text tokens None × (body ≡ map (λ t. t.kind) tokens)

-- no memory is left for the tokens of a text that ends at a place, or it has a flaw
abbrev pub IsFlawedBody : List ℕ → ℕ → MacroFault → Type 0
IsFlawedBody text end fault = (fault ≡ faults.NoMemory)
    ⊎ ((lex : LexFault) × (fault ≡ faults.Lex lex)
    × ((at : ℕ) → at + length text ≡ end → (tokens : List Token) × IsRead at text tokens (Some lex)))
