-- The tokens that a source expands to, line by line (docs/LANGUAGE.md, "Macros and sections").
use Rattle.std.specs.Prelude.{◌≡◌, ◌≢◌, ◌≤◌, ◌<◌, ℕ, suc, pred, ◌+◌, true, false, not, if◌then◌else◌, List, [], ◌∷◌, length, take, drop, map, flat_map, is_some, Option, Some, None, Result, Ok, Err}
use Rattle.c_syntax.specs.declared.token.Token.{Token}
use Rattle.c_syntax.specs.declared.token.TokenKind.{TokenKind}
use Rattle.c_lexer.specs.declared.fault.LexFault.{LexFault}
use Rattle.c_macro.specs.declared.fault.MacroFault.{MacroFault}
use Rattle.c_macro.specs.declared.fault.MacroFault.TheVariants.{Lex, Directive, Redefined, Unbalanced, TooMany}
use Rattle.c_macro.specs.declared.fault.MacroLimit.TheVariants.{Macros}
use Rattle.c_macro.specs.declared.verb.Verb.{Verb}
use Rattle.c_macro.specs.declared.verb.Verb.TheVariants.{Alone, Pragma, Define, Undef, Ifdef, Ifndef, Else, Endif}
use Rattle.c_macro.specs.Lines.{first_line, open_comment, IsRead, IsReadTo}
use Rattle.c_macro.specs.Directives.{IsDirective, IsOther, verb_of, IsNamed, OpensParenthesis, IsLoneName, HasNoForm}
use Rattle.c_macro.specs.Macros.{Table, no_macros, without, with_body, Step, steps, most_macros, Output, taken}
use Rattle.c_macro.specs.Sections.{Section, is_kept, opened, turned, closed, passed}

-- what the lines before a line leave: the macros, how many they are, and the open sections, the innermost first
pub record State : Type 0 where
  pub table : Table
  pub defined : ℕ
  pub sections : List Section

abbrev pub at_start : State
at_start = record { table = no_macros; defined = 0; sections = [] }

abbrev pub with_macro : List ℕ → List TokenKind → State → State
with_macro name body s = record { table = with_body name body s.table; defined = suc s.defined; sections = s.sections }

abbrev pub without_macro : List ℕ → State → State
without_macro name s = record {
  table = without name s.table;
  defined = if is_some (s.table name) then pred s.defined else s.defined;
  sections = s.sections;
}

abbrev pub with_sections : List Section → State → State
with_sections sections s = record { table = s.table; defined = s.defined; sections = sections }

abbrev pub in_sections : State → Result (List Section) MacroFault → Result State MacroFault
in_sections s (Ok sections) = Ok (with_sections sections s)
in_sections s (Err fault) = Err fault

-- a name at a place is defined with a body, in which a fault may stand
pub data Defines (s : State) (at : ℕ) (name : List ℕ) (body : List TokenKind) : Option LexFault → Result State MacroFault → Type 0 where
  Flawed : (fault : LexFault) → Defines s at name body (Some fault) (Err (Lex fault))
  New : s.table name ≡ None → s.defined < most_macros → Defines s at name body None (Ok (with_macro name body s))
  OneTooMany : s.table name ≡ None → most_macros ≤ s.defined → Defines s at name body None (Err (TooMany Macros (most_macros + 1)))
  Again : s.table name ≡ Some body → Defines s at name body None (Ok s)
  Redefines : (other : List TokenKind) → s.table name ≡ Some other → other ≢ body → Defines s at name body None (Err (Redefined at))

-- the first of two faults
abbrev pub first_of : Option LexFault → Option LexFault → Option LexFault
first_of (Some fault) other = Some fault
first_of None other = other

-- what a directive with its `#` at a place and its rest at another does in a line that is kept, at whose end a comment
-- may be open
pub data Obeys (s : State) (hash at : ℕ) (rest : List ℕ) (comment : Option LexFault) : Verb → Result State MacroFault → Type 0 where
  OfAlone : rest ≡ [] → Obeys s hash at rest comment Alone (Ok s)
  OfPragma : Obeys s hash at rest comment Pragma (Ok s)
  OfDefine : (name_at : ℕ) (name following : List ℕ) (body_at : ℕ) (body : List Token) (end : Option LexFault) (result : Result State MacroFault)
      → IsNamed rest name_at name following
      → (OpensParenthesis following → ⊥)
      → body_at + length following ≡ at + length rest
      → IsRead body_at following body end
      → Defines s (at + name_at) name (map (λ t. t.kind) body) (first_of end comment) result
      → Obeys s hash at rest comment Define result
  OfUndef : (name : List ℕ) → IsLoneName rest name → Obeys s hash at rest comment Undef (Ok (without_macro name s))
  OfIfdef : (name : List ℕ) → IsLoneName rest name
      → Obeys s hash at rest comment Ifdef (Ok (with_sections (opened hash (is_some (s.table name)) s.sections) s))
  OfIfndef : (name : List ℕ) → IsLoneName rest name
      → Obeys s hash at rest comment Ifndef (Ok (with_sections (opened hash (not (is_some (s.table name))) s.sections) s))
  OfElse : (result : Result State MacroFault) → in_sections s (turned hash s.sections) ≡ result → Obeys s hash at rest comment Else result
  OfEndif : (result : Result State MacroFault) → in_sections s (closed hash s.sections) ≡ result → Obeys s hash at rest comment Endif result
  OfNoForm : (verb : Verb) → HasNoForm verb rest → Obeys s hash at rest comment verb (Err (Directive hash))

-- what a line leaves
abbrev pub AfterLine : Type 0
AfterLine = Result (State × Output) MacroFault

abbrev pub with_output : Output → Result State MacroFault → AfterLine
with_output out (Ok s) = Ok (s, out)
with_output out (Err fault) = Err fault

-- the steps of the tokens of a kept line
abbrev pub steps_of : Table → List Token → List Step
steps_of table tokens = flat_map (steps most_macros table) tokens

-- what a line at a place does, at whose end a comment may be open
pub data LineDoes (s : State) (out : Output) (at : ℕ) (line : List ℕ) (comment : Option LexFault) : AfterLine → Type 0 where
  KeptText : is_kept s.sections ≡ true → IsOther line
      → (tokens : List Token) → IsRead at line tokens None
      → (more : Output) → taken out (steps_of s.table tokens) ≡ Ok more
      → LineDoes s out at line comment (Ok (s, more))
  KeptFlaw : is_kept s.sections ≡ true → IsOther line
      → (tokens : List Token) (fault : LexFault) → IsRead at line tokens (Some fault)
      → (more : Output) → taken out (steps_of s.table tokens) ≡ Ok more
      → LineDoes s out at line comment (Err (Lex fault))
  KeptLimit : is_kept s.sections ≡ true → IsOther line
      → (tokens : List Token) (rest : List ℕ) → IsReadTo at line tokens rest
      → (fault : MacroFault) → taken out (steps_of s.table tokens) ≡ Err fault
      → LineDoes s out at line comment (Err fault)
  PassedText : is_kept s.sections ≡ false → IsOther line → LineDoes s out at line comment (Ok (s, out))
  KeptDirective : is_kept s.sections ≡ true
      → (hash : ℕ) (word : List ℕ) (rest_at : ℕ) (rest : List ℕ) → IsDirective line hash word rest_at rest
      → (result : Result State MacroFault) → Obeys s (at + hash) (at + rest_at) rest comment (verb_of word) result
      → LineDoes s out at line comment (with_output out result)
  PassedDirective : is_kept s.sections ≡ false
      → (hash : ℕ) (word : List ℕ) (rest_at : ℕ) (rest : List ℕ) → IsDirective line hash word rest_at rest
      → (after : AfterLine) → with_output out (in_sections s (passed (at + hash) (verb_of word) s.sections)) ≡ after
      → LineDoes s out at line comment after

-- what the end of the text comes to: a section that is open there isn't balanced
abbrev pub at_end : State → Output → Result (List Token) MacroFault
at_end s out = ends s.sections
  where
    ends : List Section → Result (List Token) MacroFault
    ends [] = Ok out.tokens
    ends (section ∷ outer) = Err (Unbalanced section.at)

-- the first line of a text, with its line feed, and what follows it
abbrev pub line_of : List ℕ → List ℕ
line_of text = take (first_line text).bytes text

abbrev pub after_line : List ℕ → List ℕ
after_line text = drop (first_line text).bytes text

-- what the lines of a text at a place come to
pub data ComesTo : State → Output → ℕ → List ℕ → Result (List Token) MacroFault → Type 0 where
  AtEnd : {s : State} {out : Output} {at : ℕ} {text : List ℕ} {result : Result (List Token) MacroFault}
      → text ≡ [] → at_end s out ≡ result → ComesTo s out at text result
  GoesOn : {s : State} {out : Output} {at : ℕ} {text : List ℕ} {result : Result (List Token) MacroFault}
      → text ≢ [] → open_comment at (first_line text) ≡ None
      → (next : State) (more : Output) → LineDoes s out at (line_of text) None (Ok (next, more))
      → ComesTo next more (at + (first_line text).bytes) (after_line text) result
      → ComesTo s out at text result
  IsOpen : {s : State} {out : Output} {at : ℕ} {text : List ℕ}
      → (fault : LexFault) → open_comment at (first_line text) ≡ Some fault
      → (next : State) (more : Output) → LineDoes s out at (line_of text) (Some fault) (Ok (next, more))
      → ComesTo s out at text (Err (Lex fault))
  Stops : {s : State} {out : Output} {at : ℕ} {text : List ℕ}
      → text ≢ [] → (fault : MacroFault) → LineDoes s out at (line_of text) (open_comment at (first_line text)) (Err fault)
      → ComesTo s out at text (Err fault)

abbrev pub nothing_yet : Output
nothing_yet = record { tokens = []; replacements = 0 }

-- a source comes to the tokens that it expands to, or to its first fault
abbrev pub Outcome : List ℕ → Result (List Token) MacroFault → Type 0
Outcome text result = ComesTo at_start nothing_yet 0 text result

abbrev pub Expands : List ℕ → List Token → Type 0
Expands text tokens = Outcome text (Ok tokens)
