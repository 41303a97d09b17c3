-- What the code keeps while it goes over the lines, in the words of the definitions.
use Rattle.std.specs.Option.{option_map_or}
use Rattle.std.specs.Prelude.{Vec, ◌≡◌, ⊤, ◌⊎◌, ◌<◌, ◌≤◌, ℕ, suc, ◌+◌, ◌-◌, ◌*◌, if◌then◌else◌, Bool, true, false, List, [], ◌∷◌, ◌++◌, length, map, reverse, drop, set, replicate, get_or, slice_get, flat_map, option_map, option_and_then, is_some, Option, Some, None, Result, Ok, Err}
use Rattle.std.specs.List.{AllByRecursion}
use Rattle.std.specs.Str.{bytes_eq}
use Rattle.std.specs.Borrow.{Bor}
use Rattle.std.specs.declared.alloc.Global.{Global}
use Rattle.std.specs.declared.hash.BuildHasherDefault.{BuildHasherDefault}
use Rattle.std.specs.declared.hash.FoldHasher.{FoldHasher}
use Rattle.indexmap.specs.IndexMap.{IndexMap, index_of_by, index_map_len}
use Rattle.c_syntax.specs.declared.token.Token.{Token}
use Rattle.c_syntax.specs.declared.token.TokenKind.{TokenKind}
use Rattle.c_syntax.specs.Lexes.{most_tokens}
use Rattle.c_lexer.specs.declared.fault.LexFault.{LexFault}
use Rattle.c_macro.specs.declared.fault.MacroFault.{MacroFault}
use Rattle.c_macro.specs.declared.fault.MacroFault.TheVariants as faults
use Rattle.c_macro.specs.declared.directives.Directive.{Directive}
use Rattle.c_macro.specs.declared.expander.Expander.{Expander}
use Rattle.c_macro.specs.declared.macros.Frame.{Frame}
use Rattle.c_macro.specs.declared.macros.Macros.{Macros}
use Rattle.c_macro.specs.declared.output.Output as output
use Rattle.c_macro.specs.declared.replacer.Replacer.{Replacer}
use Rattle.c_macro.specs.declared.sections.Section as section
use Rattle.c_macro.specs.declared.sections.Sections.{Sections}
use Rattle.c_macro.specs.Lines.{IsRead, IsReadTo}
use Rattle.c_macro.specs.Directives.{IsLoneName, verb_of}
use Rattle.c_macro.specs.Macros.{Table, spelling_of, Step, Replaces, steps, placed, most_macros, Output, most_replacements, taken}
use Rattle.c_macro.specs.Sections.{Section, is_kept}
use Rattle.c_macro.specs.Expands.{State, steps_of, Obeys, ComesTo}

-- ---- the output

abbrev pub output_of : output.Output → Output
output_of out = record { tokens = out.tokens.items; replacements = out.replacements }

-- these steps lead from one output to another: whatever steps follow
abbrev pub TakesTo : output.Output → List Step → output.Output → Type 0
TakesTo old steps new = (more : List Step) → taken (output_of old) (steps ++ more) ≡ taken (output_of new) more

-- no memory is left, or these steps pass a limit: whatever steps follow
abbrev pub StopsOn : output.Output → List Step → MacroFault → Type 0
StopsOn old steps fault = (fault ≡ faults.NoMemory) ⊎ ((more : List Step) → taken (output_of old) (steps ++ more) ≡ Err fault)

-- how much may follow: a replacement counts twice
abbrev pub room_of : output.Output → ℕ
room_of out = 2 * (most_replacements - out.replacements) + (most_tokens - length out.tokens.items)

-- ---- the open sections

abbrev pub section_of : section.Section → Section
section_of s = record { at = s.at; keeps = s.keeps; has_else = s.has_else }

abbrev pub sections_of : Sections → List Section
sections_of s = map section_of (reverse s.open.items)

-- each section, the innermost first, knows whether those around it keep the line
abbrev pub IsNested : List section.Section → Type 0
IsNested [] = ⊤
IsNested (s ∷ outer) = (s.is_within_kept ≡ is_kept (map section_of outer)) × IsNested outer

abbrev pub AreNested : Sections → Type 0
AreNested s = IsNested (reverse s.open.items)

-- the innermost section isn't closed
abbrev pub IsOpenAtEnd : Sections → MacroFault → Type 0
IsOpenAtEnd s fault = (inner : Section) × (outer : List Section) × (sections_of s ≡ inner ∷ outer) × (fault ≡ faults.Unbalanced inner.at)

-- ---- the macros

abbrev pub Bodies : Type 0
Bodies = IndexMap (Bor (List ℕ)) (Vec TokenKind Global) (BuildHasherDefault FoldHasher)

-- the number of the macro of a name
abbrev pub index_in : Bodies → List ℕ → Option ℕ
index_in bodies name = index_of_by (λ k. bytes_eq name k.now) bodies

abbrev pub body_at : Bodies → ℕ → List TokenKind
body_at bodies i = option_map_or (λ entry. entry.1.items) (slice_get bodies.entries i) []

abbrev pub table_in : Bodies → Table
table_in bodies name = option_map (body_at bodies) (index_in bodies name)

-- the macros that aren't being replaced
abbrev pub free_in : Bodies → List Bool → Table
free_in bodies busy name = option_and_then (λ i. if get_or busy i true then None else Some (body_at bodies i)) (index_in bodies name)

abbrev pub free_count : List Bool → ℕ
free_count [] = 0
free_count (true ∷ busy) = free_count busy
free_count (false ∷ busy) = suc (free_count busy)

abbrev pub IsReady : Macros → Type 0
IsReady m = (index_map_len m.bodies ≤ most_macros) × (length m.busy.items ≡ most_macros)

-- no macro is being replaced
abbrev pub IsIdle : Macros → Type 0
IsIdle m = (index_map_len m.bodies ≤ most_macros) × (m.busy.items ≡ replicate most_macros false)

-- a token is the macro of this number, which isn't being replaced
pub record IsFree (m : Macros) (kind : TokenKind) (index : ℕ) : Type 0 where
  pub name : List ℕ
  pub spelled : spelling_of kind ≡ Some name
  pub indexed : index_in m.bodies name ≡ Some index
  pub within : index < index_map_len m.bodies
  pub free : get_or m.busy.items index true ≡ false

abbrev pub state_in : Macros → List Section → State
state_in m sections = record { table = table_in m.bodies; defined = index_map_len m.bodies; sections = sections }

-- ---- the bodies that are being replaced, the innermost first

-- the steps that are left of them, for a token with this place and length
abbrev pub pending : Bodies → List Bool → ℕ → ℕ → List Frame → List Step
pending bodies busy at len [] = []
pending bodies busy at len (frame ∷ outer) =
    flat_map (λ kind. steps (free_count busy) (free_in bodies busy) (placed at len kind)) (drop frame.next (body_at bodies frame.index))
    ++ pending bodies (set busy frame.index false) at len outer

-- which macros are being replaced once these are ended
abbrev pub unwound : List Bool → List Frame → List Bool
unwound busy [] = busy
unwound busy (frame ∷ outer) = unwound (set busy frame.index false) outer

abbrev pub AreFrames : List Frame → Type 0
AreFrames frames = AllByRecursion (λ frame. frame.index < most_macros) frames

abbrev pub frames_of : Replacer → List Frame
frames_of r = reverse r.stack.items

abbrev pub pending_of : Replacer → ℕ → ℕ → List Frame → List Step
pending_of r at len frames = pending r.macros.bodies r.macros.busy.items at len frames

abbrev pub measure_of : Replacer → ℕ
measure_of r = room_of r.output + length r.stack.items

-- a macro begins to be replaced
pub record Enters (old : Replacer) (index : ℕ) (new : Replacer) : Type 0 where
  pub takes : TakesTo old.output (Replaces ∷ []) new.output
  pub room : room_of new.output + 2 ≤ room_of old.output
  pub bodies : new.macros.bodies ≡ old.macros.bodies
  pub busy : new.macros.busy.items ≡ set old.macros.busy.items index true
  pub stack : new.stack.items ≡ old.stack.items ++ record { index = index; next = 0 } ∷ []

-- what is left of some bodies leads from one output to another, with what is left of others: whatever steps follow
abbrev pub LeadsOn : ℕ → ℕ → Replacer → List Frame → Replacer → List Frame → Type 0
LeadsOn at len old frames new rest = (more : List Step)
    → taken (output_of old.output) (pending_of old at len frames ++ more) ≡ taken (output_of new.output) (pending_of new at len rest ++ more)

-- ---- lines

abbrev pub state_of : Expander → State
state_of e = state_in e.replacer.macros (sections_of e.sections)

abbrev pub out_of : Expander → Output
out_of e = output_of e.replacer.output

-- between lines no macro is being replaced
pub record IsAtLine (e : Expander) : Type 0 where
  pub idle : IsIdle e.replacer.macros
  pub empty : e.replacer.stack.items ≡ []
  pub nested : AreNested e.sections

-- a text line's tokens are answered, each replaced
abbrev pub AnswersText : Expander → ℕ → List ℕ → Expander → Type 0
AnswersText old at line new = (tokens : List Token)
    × IsRead at line tokens None × (taken (out_of old) (steps_of (state_of old).table tokens) ≡ Ok (out_of new))

-- a flaw comes after tokens that are answered
pub record IsFlawedText (old : Expander) (at : ℕ) (line : List ℕ) (fault : MacroFault) : Type 0 where
  pub lex : LexFault
  pub is : fault ≡ faults.Lex lex
  pub tokens : List Token
  pub read : IsRead at line tokens (Some lex)
  pub more : Output
  pub taken : taken (out_of old) (steps_of (state_of old).table tokens) ≡ Ok more

-- a limit is passed by the tokens in front
pub record PassesLimit (old : Expander) (at : ℕ) (line : List ℕ) (fault : MacroFault) : Type 0 where
  pub tokens : List Token
  pub rest : List ℕ
  pub read : IsReadTo at line tokens rest
  pub stops : taken (out_of old) (steps_of (state_of old).table tokens) ≡ Err fault

abbrev pub StopsInText : Expander → ℕ → List ℕ → MacroFault → Type 0
StopsInText old at line fault = (fault ≡ faults.NoMemory) ⊎ (IsFlawedText old at line fault ⊎ PassesLimit old at line fault)

-- a text is a lone name but for blanks, and whether that is defined
abbrev pub Tests : Expander → List ℕ → Bool → Type 0
Tests e rest is_defined = (name : List ℕ) × IsLoneName rest name × (is_defined ≡ is_some ((state_of e).table name))

abbrev pub HasNoLoneName : ℕ → List ℕ → MacroFault → Type 0
HasNoLoneName hash rest fault = (fault ≡ faults.Directive hash) × ((name : List ℕ) → IsLoneName rest name → ⊥)

-- a directive of a kept line at a place is obeyed, at whose end a comment may be open
abbrev pub ObeysAt : Expander → ℕ → Directive → Option LexFault → Result State MacroFault → Type 0
ObeysAt e at d comment result = Obeys (state_of e) (at + d.hash) (at + d.at) d.rest.now comment (verb_of d.word.now) result

-- a text comes to whatever its rest comes to
abbrev pub LeadsTo : Expander → ℕ → List ℕ → Expander → List ℕ → Type 0
LeadsTo old at text new rest = (place : ℕ) (result : Result (List Token) MacroFault) → place + length rest ≡ at + length text
    → ComesTo (state_of new) (out_of new) place rest result → ComesTo (state_of old) (out_of old) at text result
