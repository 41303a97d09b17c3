-- The tokens that a source expands to are such as can be spelled, and they are not too many.
use Rattle.std.proofs.Common.{◌≡◌, ℕ, zero, suc, ◌+◌, ◌<◌, ◌≤◌, Bool, true, false, cond, List, [], ◌∷◌, ◌++◌, length, Option, Some, None, refl, sym, subst, arith, length-append}
use Rattle.std.specs.Prelude.{⊤, Result, Ok, Err, All, nat_lt, map, flat_map, bytes_eq, option_map, option_and_then}
use Rattle.std.specs.List.{AllByRecursion}
use Rattle.std.specs.Option.{option_map_or}
use Rattle.std.proofs.lemmas.Bool.Decides.{nat_tests}
use Rattle.std.proofs.lemmas.List.Elements.{All-from_recursion}
use Rattle.c_syntax.specs.declared.token.Token.{Token}
use Rattle.c_syntax.specs.declared.token.TokenKind.{TokenKind}
use Rattle.c_syntax.specs.Lexes.{most_tokens}
use Rattle.c_lexer.specs.declared.fault.LexFault.{LexFault}
use Rattle.c_lexer.specs.TokenText.{HasSpelling}
use Rattle.c_lexer.proofs.SpelledTokens.{pieces_spelled}
use Rattle.c_macro.specs.declared.fault.MacroFault.{MacroFault}
use Rattle.c_macro.specs.declared.fault.MacroFault.TheVariants.{TooMany}
use Rattle.c_macro.specs.declared.fault.MacroLimit.TheVariants.{Tokens, Replacements}
use Rattle.c_macro.specs.declared.verb.Verb.{Verb}
use Rattle.c_macro.specs.Lines.{first_line, IsReadTo, IsRead}
use Rattle.c_macro.specs.Directives.{verb_of}
use Rattle.c_macro.specs.Macros.{Table, no_macros, without, with_body, Macro, macro_named, macro_of, spelling_of, Step, Answers, Replaces, placed, steps, most_macros, Output, with_token, one_more, most_replacements, taken}
use Rattle.c_macro.specs.Sections.{Section, turned, closed, passed}
use Rattle.c_macro.specs.Expands.{State, at_start, in_sections, Defines, Flawed, New, OneTooMany, Again, Redefines, first_of, Obeys, OfAlone, OfPragma, OfDefine, OfUndef, OfIfdef, OfIfndef, OfElse, OfEndif, OfNoForm, AfterLine, with_output, steps_of, LineDoes, KeptText, KeptFlaw, KeptLimit, PassedText, KeptDirective, PassedDirective, at_end, line_of, after_line, ComesTo, AtEnd, GoesOn, IsOpen, Stops, nothing_yet, Expands}

-- ---- lists

all_joined : {A : Type 0} (P : A → Type 0) (xs ys : List A) → AllByRecursion P xs → AllByRecursion P ys → AllByRecursion P (xs ++ ys)
all_joined P [] ys g h = h
all_joined P (x ∷ xs) ys g h = (g.0, all_joined P xs ys g.1 h)

all_of_each : {A B : Type 0} (P : A → Type 0) (Q : B → Type 0) (f : A → List B) (xs : List A) → ((x : A) → P x → AllByRecursion Q (f x)) → AllByRecursion P xs → AllByRecursion Q (flat_map f xs)
all_of_each P Q f [] each h = tt {0}
all_of_each P Q f (x ∷ xs) each h = all_joined Q (f x) (flat_map f xs) (each x h.0) (all_of_each P Q f xs each h.1)

-- ---- bodies

abbrev AreKinds : List TokenKind → Type 0
AreKinds kinds = AllByRecursion HasSpelling kinds

abbrev AreTokens : List Token → Type 0
AreTokens tokens = AllByRecursion (λ t. HasSpelling t.kind) tokens

kinds_of : (tokens : List Token) → AreTokens tokens → AreKinds (map (λ t. t.kind) tokens)
kinds_of [] h = tt {0}
kinds_of (t ∷ tokens) h = (h.0, kinds_of tokens h.1)

abbrev IsBody : Option (List TokenKind) → Type 0
IsBody None = ⊤
IsBody (Some body) = AreKinds body

-- each body's kinds have spellings
record IsSpelled (table : Table) : Type 0 where
  by : (name : List ℕ) → IsBody (table name)

none_spelled : IsSpelled no_macros
none_spelled = record { by = λ name. tt {0} }

without_spelled : (name : List ℕ) (table : Table) → IsSpelled table → IsSpelled (without name table)
without_spelled name table h = record { by = λ other. pick (bytes_eq name other) (table other) (h.by other) }
  where
    pick : (b : Bool) (body : Option (List TokenKind)) → IsBody body → IsBody (cond b None body)
    pick true body g = tt {0}
    pick false body g = g

with_spelled : (name : List ℕ) (body : List TokenKind) (table : Table) → AreKinds body → IsSpelled table → IsSpelled (with_body name body table)
with_spelled name body table k h = record { by = λ other. pick (bytes_eq name other) (table other) (h.by other) }
  where
    pick : (b : Bool) (old : Option (List TokenKind)) → IsBody old → IsBody (cond b (Some body) old)
    pick true old g = k
    pick false old g = g

abbrev IsMacro : Option Macro → Type 0
IsMacro None = ⊤
IsMacro (Some m) = AreKinds m.body

named_spelled : (name : List ℕ) (body : Option (List TokenKind)) → IsBody body → IsMacro (option_map (λ b. record { name = name; body = b }) body)
named_spelled name None h = tt {0}
named_spelled name (Some body) h = h

macro_spelled : (table : Table) (spelling : Option (List ℕ)) → IsSpelled table → IsMacro (option_and_then (macro_named table) spelling)
macro_spelled table None h = tt {0}
macro_spelled table (Some name) h = named_spelled name (table name) (h.by name)

-- ---- steps

abbrev IsStep : Step → Type 0
IsStep (Answers t) = HasSpelling t.kind
IsStep Replaces = ⊤

abbrev body_steps : ℕ → Table → Token → Macro → List Step
body_steps left table t macro = Replaces ∷ flat_map (λ kind. steps left (without macro.name table) (placed t.at t.len kind)) macro.body

token_steps : (left : ℕ) (table : Table) (t : Token) (macro : Option Macro) → HasSpelling t.kind → IsMacro macro
    → ((m : Macro) → AreKinds m.body → AllByRecursion IsStep (body_steps left table t m))
    → AllByRecursion IsStep (option_map_or (body_steps left table t) macro (Answers t ∷ []))
token_steps left table t None h m each = (h, tt {0})
token_steps left table t (Some macro) h m each = each macro m

steps_spelled : (left : ℕ) (table : Table) (t : Token) → IsSpelled table → HasSpelling t.kind → AllByRecursion IsStep (steps left table t)
steps_spelled zero table t h k = (k, tt {0})
steps_spelled (suc left) table t h k =
    token_steps left table t (macro_of table t.kind) k (macro_spelled table (spelling_of t.kind) h)
    (λ m body. (
      tt {0},
      all_of_each HasSpelling IsStep (λ kind. steps left (without m.name table) (placed t.at t.len kind)) m.body
          (λ kind is. steps_spelled left (without m.name table) (placed t.at t.len kind) (without_spelled m.name table h) is) body,
    ))

tokens_steps : (table : Table) (tokens : List Token) → IsSpelled table → AreTokens tokens → AllByRecursion IsStep (steps_of table tokens)
tokens_steps table tokens h k = all_of_each (λ t. HasSpelling t.kind) IsStep (steps most_macros table) tokens (λ t is. steps_spelled most_macros table t h is) k

-- ---- the output

record IsOutput (out : Output) : Type 0 where
  tokens : AreTokens out.tokens
  few : length out.tokens ≤ most_tokens

one_token : (out : Output) (t : Token) → HasSpelling t.kind → nat_lt (length out.tokens) most_tokens ≡ true → IsOutput out → IsOutput (with_token out t)
one_token out t h below o = record {
  tokens = all_joined (λ t. HasSpelling t.kind) out.tokens (t ∷ []) o.tokens (h, tt {0});
  few =
      let less : length out.tokens < most_tokens = grind (arith, nat_tests) in
      omega (arith, less, length-append out.tokens (t ∷ []));
}

taken_spelled : (out : Output) (steps : List Step) (more : Output) → AllByRecursion IsStep steps → IsOutput out → taken out steps ≡ Ok more → IsOutput more
taken_spelled out [] more h o e = let k : out ≡ more = cc in subst IsOutput k o
taken_spelled out (Answers t ∷ steps) more h o e =
    by (nat_lt (length out.tokens) most_tokens) e (λ below k. taken_spelled (with_token out t) steps more h.1 (one_token out t h.0 below o) k)
  where
    by : (b : Bool) → cond b (taken (with_token out t) steps) (Err (TooMany Tokens (most_tokens + 1))) ≡ Ok more
        → (b ≡ true → taken (with_token out t) steps ≡ Ok more → IsOutput more) → IsOutput more
    by true e rest = rest refl e
    by false e rest = absurd cc
taken_spelled out (Replaces ∷ steps) more h o e =
    by (nat_lt out.replacements most_replacements) e (λ k. taken_spelled (one_more out) steps more h.1 (record { tokens = o.tokens; few = o.few }) k)
  where
    by : (b : Bool) → cond b (taken (one_more out) steps) (Err (TooMany Replacements (most_replacements + 1))) ≡ Ok more
        → (taken (one_more out) steps ≡ Ok more → IsOutput more) → IsOutput more
    by true e rest = rest e
    by false e rest = absurd cc

-- ---- directives

read_spelled : (at : ℕ) (text : List ℕ) (tokens : List Token) (rest : List ℕ) → IsReadTo at text tokens rest → AreTokens tokens
read_spelled at text tokens rest r = subst AreTokens (sym r.are) (pieces_spelled r.pieces at rest r.stand)

all_read_spelled : (at : ℕ) (text : List ℕ) (tokens : List Token) (end : Option LexFault) → IsRead at text tokens end → AreTokens tokens
all_read_spelled at text tokens end r = read_spelled at text tokens r.0 r.2

abbrev IsState : Result State MacroFault → Type 0
IsState (Ok s) = IsSpelled s.table
IsState (Err fault) = ⊤

in_sections_spelled : (s : State) (sections : Result (List Section) MacroFault) → IsSpelled s.table → IsState (in_sections s sections)
in_sections_spelled s (Ok sections) h = h
in_sections_spelled s (Err fault) h = tt {0}

defines_spelled : (s : State) (at : ℕ) (name : List ℕ) (body : List TokenKind) (end : Option LexFault) (result : Result State MacroFault)
    → Defines s at name body end result → IsSpelled s.table → AreKinds body → IsState result
defines_spelled s at name body end result (Flawed fault) h k = tt {0}
defines_spelled s at name body end result (New none few) h k = with_spelled name body s.table k h
defines_spelled s at name body end result (OneTooMany none many) h k = tt {0}
defines_spelled s at name body end result (Again is) h k = h
defines_spelled s at name body end result (Redefines other is n) h k = tt {0}

obeys_spelled : (s : State) (hash at : ℕ) (rest : List ℕ) (comment : Option LexFault) (verb : Verb) (result : Result State MacroFault)
    → Obeys s hash at rest comment verb result → IsSpelled s.table → IsState result
obeys_spelled s hash at rest comment verb result (OfAlone e) h = h
obeys_spelled s hash at rest comment verb result OfPragma h = h
obeys_spelled s hash at rest comment verb result (OfDefine i name behind j body end made named plain is_placed read def) h =
    defines_spelled s (at + i) name (map (λ t. t.kind) body) (first_of end comment) result def h (kinds_of body (all_read_spelled j behind body end read))
obeys_spelled s hash at rest comment verb result (OfUndef name is) h = without_spelled name s.table h
obeys_spelled s hash at rest comment verb result (OfIfdef name is) h = h
obeys_spelled s hash at rest comment verb result (OfIfndef name is) h = h
obeys_spelled s hash at rest comment verb result (OfElse made e) h = subst IsState e (in_sections_spelled s (turned hash s.sections) h)
obeys_spelled s hash at rest comment verb result (OfEndif made e) h = subst IsState e (in_sections_spelled s (closed hash s.sections) h)
obeys_spelled s hash at rest comment verb result (OfNoForm v n) h = tt {0}

-- ---- lines

record IsAfter (s : State) (out : Output) : Type 0 where
  table : IsSpelled s.table
  output : IsOutput out

abbrev IsAfterLine : AfterLine → Type 0
IsAfterLine (Ok after) = IsAfter after.0 after.1
IsAfterLine (Err fault) = ⊤

with_output_spelled : (out : Output) (result : Result State MacroFault) → IsState result → IsOutput out → IsAfterLine (with_output out result)
with_output_spelled out (Ok s) h o = record { table = h; output = o }
with_output_spelled out (Err fault) h o = tt {0}

line_spelled : (s : State) (out : Output) (at : ℕ) (line : List ℕ) (comment : Option LexFault) (r : AfterLine) → LineDoes s out at line comment r → IsAfter s out → IsAfterLine r
line_spelled s out at line comment r (KeptText kept other tokens read more take) h =
    record { table = h.table; output = taken_spelled out (steps_of s.table tokens) more (tokens_steps s.table tokens h.table (all_read_spelled at line tokens None read)) h.output take }
line_spelled s out at line comment r (KeptFlaw kept other tokens fault read more take) h = tt {0}
line_spelled s out at line comment r (KeptLimit kept other tokens rest read fault stop) h = tt {0}
line_spelled s out at line comment r (PassedText kept other) h = h
line_spelled s out at line comment r (KeptDirective kept hash word rest_at rest is result obeys) h =
    with_output_spelled out result (obeys_spelled s (at + hash) (at + rest_at) rest comment (verb_of word) result obeys h.table) h.output
line_spelled s out at line comment r (PassedDirective kept hash word rest_at rest is after e) h =
    subst IsAfterLine e (with_output_spelled out (in_sections s (passed (at + hash) (verb_of word) s.sections)) (in_sections_spelled s (passed (at + hash) (verb_of word) s.sections) h.table) h.output)

-- ---- the source

record AreExpanded (tokens : List Token) : Type 0 where
  are : AreTokens tokens
  few : length tokens ≤ most_tokens

abbrev IsResult : Result (List Token) MacroFault → Type 0
IsResult (Ok tokens) = AreExpanded tokens
IsResult (Err fault) = ⊤

end_spelled : (table : Table) (defined : ℕ) (sections : List Section) (out : Output) → IsOutput out → IsResult (at_end (record { table = table; defined = defined; sections = sections }) out)
end_spelled table defined [] out o = record { are = o.tokens; few = o.few }
end_spelled table defined (section ∷ outer) out o = tt {0}

comes_spelled : (s : State) (out : Output) (at : ℕ) (text : List ℕ) (result : Result (List Token) MacroFault) → ComesTo s out at text result → IsAfter s out → IsResult result
comes_spelled s out at text result (AtEnd e is) h = subst IsResult is (end_spelled s.table s.defined s.sections out h.output)
comes_spelled s out at text result (GoesOn n z next more line rest) h =
    comes_spelled next more (at + (first_line text).bytes) (after_line text) result rest (line_spelled s out at (line_of text) None (Ok (next, more)) line h)
comes_spelled s out at text result (IsOpen fault is next more line) h = tt {0}
comes_spelled s out at text result (Stops n fault line) h = tt {0}

expands_spelled : (text : List ℕ) (tokens : List Token) → Expands text tokens → AreExpanded tokens
expands_spelled text tokens e =
    comes_spelled at_start nothing_yet 0 text (Ok tokens) e
    (record { table = none_spelled; output = record { tokens = tt {0}; few = omega arith } })

pub expansion_spelled : (text : List ℕ) (tokens : List Token) → Expands text tokens → All (λ t. HasSpelling t.kind) tokens
expansion_spelled text tokens e = let h = expands_spelled text tokens e in All-from_recursion (λ t. HasSpelling t.kind) tokens h.are

pub expansion_few : (text : List ℕ) (tokens : List Token) → Expands text tokens → length tokens ≤ most_tokens
expansion_few text tokens e = let h = expands_spelled text tokens e in h.few
