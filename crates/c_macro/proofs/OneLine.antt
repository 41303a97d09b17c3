-- A line does one thing.
use Rattle.std.proofs.Common.{◌≡◌, ℕ, ◌+◌, Bool, true, false, cond, List, [], ◌∷◌, ◌++◌, length, Option, Some, None, refl, sym, ap, ◌∙◌, subst, arith, inl, inr}
use Rattle.std.specs.Prelude.{◌⊎◌, Result, Ok, Err, nat_lt, map, is_some, not}
use Rattle.std.proofs.lemmas.Grind.{flat_map-append}
use Rattle.c_syntax.specs.declared.token.Token.{Token}
use Rattle.c_syntax.specs.declared.token.TokenKind.{TokenKind}
use Rattle.c_syntax.specs.Lexes.{most_tokens}
use Rattle.c_lexer.specs.declared.fault.LexFault.{LexFault}
use Rattle.c_macro.specs.declared.fault.MacroFault.{MacroFault}
use Rattle.c_macro.specs.declared.fault.MacroFault.TheVariants.{Lex, TooMany}
use Rattle.c_macro.specs.declared.fault.MacroLimit.TheVariants.{Tokens, Replacements}
use Rattle.c_macro.specs.declared.verb.Verb.{Verb}
use Rattle.c_macro.specs.Lines.{IsReadTo, IsRead}
use Rattle.c_macro.specs.Directives.{IsDirective, IsOther, verb_of, IsNamed, OpensParenthesis}
use Rattle.c_macro.specs.Macros.{Table, Step, Answers, Replaces, steps, most_macros, Output, taken, with_token, one_more, most_replacements}
use Rattle.c_macro.specs.Sections.{is_kept, opened, passed}
use Rattle.c_macro.specs.Expands.{State, with_sections, without_macro, in_sections, Defines, Flawed, New, OneTooMany, Again, Redefines, first_of, Obeys, OfAlone, OfPragma, OfDefine, OfUndef, OfIfdef, OfIfndef, OfElse, OfEndif, OfNoForm, AfterLine, with_output, steps_of, LineDoes, KeptText, KeptFlaw, KeptLimit, PassedText, KeptDirective, PassedDirective}
use Rattle.c_macro.proofs.OneReading.{IsFront, reads_linear, read_one, read_front}
use Rattle.c_macro.proofs.OneDirective.{directive_one, named_one, lone_name_one}

-- ---- steps

-- where the first steps pass a limit, the steps behind them don't matter
pub taken_stops : (out : Output) (first more : List Step) (fault : MacroFault) → taken out first ≡ Err fault → taken out (first ++ more) ≡ Err fault
taken_stops out [] more fault e = absurd cc
taken_stops out (Answers t ∷ first) more fault e = by (nat_lt (length out.tokens) most_tokens) e (taken_stops (with_token out t) first more fault)
  where
    by : (b : Bool) → cond b (taken (with_token out t) first) (Err (TooMany Tokens (most_tokens + 1))) ≡ Err fault
        → (taken (with_token out t) first ≡ Err fault → taken (with_token out t) (first ++ more) ≡ Err fault)
        → cond b (taken (with_token out t) (first ++ more)) (Err (TooMany Tokens (most_tokens + 1))) ≡ Err fault
    by true e rest = rest e
    by false e rest = e
taken_stops out (Replaces ∷ first) more fault e = by (nat_lt out.replacements most_replacements) e (taken_stops (one_more out) first more fault)
  where
    by : (b : Bool) → cond b (taken (one_more out) first) (Err (TooMany Replacements (most_replacements + 1))) ≡ Err fault
        → (taken (one_more out) first ≡ Err fault → taken (one_more out) (first ++ more) ≡ Err fault)
        → cond b (taken (one_more out) (first ++ more)) (Err (TooMany Replacements (most_replacements + 1))) ≡ Err fault
    by true e rest = rest e
    by false e rest = e

-- the same of the steps of tokens
tokens_stop : (out : Output) (table : Table) (a b more : List Token) (fault : MacroFault) → b ≡ a ++ more → taken out (steps_of table a) ≡ Err fault → taken out (steps_of table b) ≡ Err fault
tokens_stop out table a b more fault joined e =
    ap (λ l. taken out (steps_of table l)) joined ∙ ap (taken out) (flat_map-append (steps most_macros table) a more)
    ∙ taken_stops out (steps_of table a) (steps_of table more) fault e

-- ---- definitions

defines_one : (s : State) (at : ℕ) (name : List ℕ) (body : List TokenKind) (end : Option LexFault) (a b : Result State MacroFault) → Defines s at name body end a → Defines s at name body end b → a ≡ b
defines_one s at name body end a b (Flawed f) (Flawed g) = refl
defines_one s at name body end a b (New none few) (New none' few') = refl
defines_one s at name body end a b (New none few) (OneTooMany none' many) = absurd (omega (arith, few, many))
defines_one s at name body end a b (New none few) (Again is) = absurd (let k = sym none ∙ is in cc)
defines_one s at name body end a b (New none few) (Redefines other is n) = absurd (let k = sym none ∙ is in cc)
defines_one s at name body end a b (OneTooMany none many) (New none' few) = absurd (omega (arith, few, many))
defines_one s at name body end a b (OneTooMany none many) (OneTooMany none' many') = refl
defines_one s at name body end a b (OneTooMany none many) (Again is) = absurd (let k = sym none ∙ is in cc)
defines_one s at name body end a b (OneTooMany none many) (Redefines other is n) = absurd (let k = sym none ∙ is in cc)
defines_one s at name body end a b (Again is) (New none few) = absurd (let k = sym none ∙ is in cc)
defines_one s at name body end a b (Again is) (OneTooMany none many) = absurd (let k = sym none ∙ is in cc)
defines_one s at name body end a b (Again is) (Again is') = refl
defines_one s at name body end a b (Again is) (Redefines other is' n) = absurd (n (let k = sym is' ∙ is in cc))
defines_one s at name body end a b (Redefines other is n) (New none few) = absurd (let k = sym none ∙ is in cc)
defines_one s at name body end a b (Redefines other is n) (OneTooMany none many) = absurd (let k = sym none ∙ is in cc)
defines_one s at name body end a b (Redefines other is n) (Again is') = absurd (n (let k = sym is ∙ is' in cc))
defines_one s at name body end a b (Redefines other is n) (Redefines other' is' n') = refl

-- ---- directives

-- a definition that stands in a line
record Definition (s : State) (at : ℕ) (rest : List ℕ) (comment : Option LexFault) (result : Result State MacroFault) : Type 0 where
  name_at : ℕ
  name : List ℕ
  behind : List ℕ
  body_at : ℕ
  body : List Token
  end : Option LexFault
  named : IsNamed rest name_at name behind
  plain : OpensParenthesis behind → ⊥
  placed : body_at + length behind ≡ at + length rest
  read : IsRead body_at behind body end
  defines : Defines s (at + name_at) name (map (λ t. t.kind) body) (first_of end comment) result

definition_at : (s : State) (at : ℕ) (name : List ℕ) (body : List TokenKind) (end : Option LexFault) (at' : ℕ) (name' : List ℕ) (body' : List TokenKind) (end' : Option LexFault) (result : Result State MacroFault)
    → at ≡ at' → name ≡ name' → body ≡ body' → end ≡ end' → Defines s at name body end result → Defines s at' name' body' end' result
definition_at s at name body end at' name' body' end' result p q r t d =
    subst (λ e. Defines s at' name' body' e result) t (subst (λ k. Defines s at' name' k end result) r (subst (λ n. Defines s at' n body end result) q (subst (λ i. Defines s i name body end result) p d)))

definition_one : (s : State) (at : ℕ) (rest : List ℕ) (comment : Option LexFault) (a b : Result State MacroFault) → Definition s at rest comment a → Definition s at rest comment b → a ≡ b
definition_one s at rest comment a b g h =
    let named = named_one rest g.name_at h.name_at g.name h.name g.behind h.behind g.named h.named in
    let places : g.body_at ≡ h.body_at = omega (arith, g.placed, h.placed, ap length named.same_rest) in
    let read = read_one h.body_at h.behind g.body h.body g.end h.end (subst (λ i. IsRead i h.behind g.body g.end) places (subst (λ t. IsRead g.body_at t g.body g.end) named.same_rest g.read)) h.read in
    defines_one s (at + h.name_at) h.name (map (λ t. t.kind) h.body) (first_of h.end comment) a b
    (definition_at s (at + g.name_at) g.name (map (λ t. t.kind) g.body) (first_of g.end comment) (at + h.name_at) h.name (map (λ t. t.kind) h.body) (first_of h.end comment) a
    (ap (λ i. at + i) named.same_at) named.same_name (ap (map (λ t. t.kind)) read.tokens) (ap (λ e. first_of e comment) read.ends) g.defines)
    h.defines

obeys_one : (s : State) (hash at : ℕ) (rest : List ℕ) (comment : Option LexFault) (verb : Verb) (a b : Result State MacroFault) → Obeys s hash at rest comment verb a → Obeys s hash at rest comment verb b → a ≡ b
obeys_one s hash at rest comment verb a b (OfAlone e) (OfAlone f) = refl
obeys_one s hash at rest comment verb a b (OfAlone e) (OfNoForm v n) = absurd (n e)
obeys_one s hash at rest comment verb a b OfPragma OfPragma = refl
obeys_one s hash at rest comment verb a b OfPragma (OfNoForm v n) = absurd n
obeys_one s hash at rest comment verb a b (OfDefine i name behind j body end result named plain placed read def) (OfDefine i' name' behind' j' body' end' result' named' plain' placed' read' def') =
    definition_one s at rest comment a b
    (record { name_at = i; name = name; behind = behind; body_at = j; body = body; end = end; named = named; plain = plain; placed = placed; read = read; defines = def })
    (record { name_at = i'; name = name'; behind = behind'; body_at = j'; body = body'; end = end'; named = named'; plain = plain'; placed = placed'; read = read'; defines = def' })
obeys_one s hash at rest comment verb a b (OfDefine i name behind j body end result named plain placed read def) (OfNoForm v n) = absurd (plain (n i name behind named))
obeys_one s hash at rest comment verb a b (OfUndef name is) (OfUndef name' is') = ap (λ n. Ok (without_macro n s)) (lone_name_one rest name name' is is')
obeys_one s hash at rest comment verb a b (OfUndef name is) (OfNoForm v n) = absurd (n name is)
obeys_one s hash at rest comment verb a b (OfIfdef name is) (OfIfdef name' is') = ap (λ n. Ok (with_sections (opened hash (is_some (s.table n)) s.sections) s)) (lone_name_one rest name name' is is')
obeys_one s hash at rest comment verb a b (OfIfdef name is) (OfNoForm v n) = absurd (n name is)
obeys_one s hash at rest comment verb a b (OfIfndef name is) (OfIfndef name' is') = ap (λ n. Ok (with_sections (opened hash (not (is_some (s.table n))) s.sections) s)) (lone_name_one rest name name' is is')
obeys_one s hash at rest comment verb a b (OfIfndef name is) (OfNoForm v n) = absurd (n name is)
obeys_one s hash at rest comment verb a b (OfElse result e) (OfElse result' e') = sym e ∙ e'
obeys_one s hash at rest comment verb a b (OfElse result e) (OfNoForm v n) = absurd n
obeys_one s hash at rest comment verb a b (OfEndif result e) (OfEndif result' e') = sym e ∙ e'
obeys_one s hash at rest comment verb a b (OfEndif result e) (OfNoForm v n) = absurd n
obeys_one s hash at rest comment verb a b (OfNoForm v n) (OfAlone e) = absurd (n e)
obeys_one s hash at rest comment verb a b (OfNoForm v n) OfPragma = absurd n
obeys_one s hash at rest comment verb a b (OfNoForm v n) (OfDefine i name behind j body end result named plain placed read def) = absurd (plain (n i name behind named))
obeys_one s hash at rest comment verb a b (OfNoForm v n) (OfUndef name is) = absurd (n name is)
obeys_one s hash at rest comment verb a b (OfNoForm v n) (OfIfdef name is) = absurd (n name is)
obeys_one s hash at rest comment verb a b (OfNoForm v n) (OfIfndef name is) = absurd (n name is)
obeys_one s hash at rest comment verb a b (OfNoForm v n) (OfElse result e) = absurd n
obeys_one s hash at rest comment verb a b (OfNoForm v n) (OfEndif result e) = absurd n
obeys_one s hash at rest comment verb a b (OfNoForm v n) (OfNoForm v' n') = refl

-- ---- lines

-- what a kept line that is no directive does
abbrev after_read : State → Option LexFault → Output → AfterLine
after_read s None more = Ok (s, more)
after_read s (Some fault) more = Err (Lex fault)

data Text (s : State) (out : Output) (at : ℕ) (line : List ℕ) (r : AfterLine) : Type 0 where
  Ends : (tokens : List Token) (end : Option LexFault) → IsRead at line tokens end
      → (more : Output) → taken out (steps_of s.table tokens) ≡ Ok more → r ≡ after_read s end more → Text s out at line r
  Limit : (tokens : List Token) (rest : List ℕ) → IsReadTo at line tokens rest
      → (fault : MacroFault) → taken out (steps_of s.table tokens) ≡ Err fault → r ≡ Err fault → Text s out at line r

not_both : (s : State) (out : Output) (at : ℕ) (line : List ℕ) (a b : List Token) (end : Option LexFault) (rest : List ℕ) (more : Output) (fault : MacroFault)
    → IsRead at line a end → taken out (steps_of s.table a) ≡ Ok more → IsReadTo at line b rest → taken out (steps_of s.table b) ≡ Err fault → ⊥
not_both s out at line a b end rest more fault g e h f =
    let front = read_front at line b a rest end h g in
    let stops = tokens_stop out s.table b a front.0 fault front.1 f in
    cc (e, stops)

errs_one : (s : State) (out : Output) (tokens : List Token) (f g : MacroFault) → taken out (steps_of s.table tokens) ≡ Err f → taken out (steps_of s.table tokens) ≡ Err g → f ≡ g
errs_one s out tokens f g a b = let k = sym a ∙ b in cc

text_one : (s : State) (out : Output) (at : ℕ) (line : List ℕ) (r q : AfterLine) → Text s out at line r → Text s out at line q → r ≡ q
text_one s out at line r q (Ends a e g more take is) (Ends b f h more' take' is') =
    let same = read_one at line a b e f g h in
    let outs : Ok more ≡ Ok more' = sym take ∙ ap (λ l. taken out (steps_of s.table l)) same.tokens ∙ take' in
    let out_same : more ≡ more' = cc in
    is ∙ ap (λ x. after_read s x more) same.ends ∙ ap (after_read s f) out_same ∙ sym is'
text_one s out at line r q (Ends a e g more take is) (Limit b rest h fault stop is') = absurd (not_both s out at line a b e rest more fault g take h stop)
text_one s out at line r q (Limit b rest h fault stop is') (Ends a e g more take is) = absurd (not_both s out at line a b e rest more fault g take h stop)
text_one s out at line r q (Limit a rest g fault stop is) (Limit b rest' h fault' stop' is') =
    let same = pick (reads_linear at line a b rest rest' g h) in
    is ∙ same ∙ sym is'
  where
    pick : IsFront a b rest rest' ⊎ IsFront b a rest' rest → ◌≡◌ {A = AfterLine} (Err fault) (Err fault')
    pick (inl f) = ap Err (errs_one s out b fault fault' (tokens_stop out s.table a b f.more fault f.joined stop) stop')
    pick (inr f) = ap Err (errs_one s out a fault fault' stop (tokens_stop out s.table b a f.more fault' f.joined stop'))

-- the four sorts of lines
data Line (s : State) (out : Output) (at : ℕ) (line : List ℕ) (comment : Option LexFault) (r : AfterLine) : Type 0 where
  OfText : is_kept s.sections ≡ true → IsOther line → Text s out at line r → Line s out at line comment r
  OfPassedText : is_kept s.sections ≡ false → IsOther line → r ≡ Ok (s, out) → Line s out at line comment r
  OfDirective : is_kept s.sections ≡ true
      → (hash : ℕ) (word : List ℕ) (rest_at : ℕ) (rest : List ℕ) → IsDirective line hash word rest_at rest
      → (result : Result State MacroFault) → Obeys s (at + hash) (at + rest_at) rest comment (verb_of word) result → r ≡ with_output out result
      → Line s out at line comment r
  OfPassedDirective : is_kept s.sections ≡ false
      → (hash : ℕ) (word : List ℕ) (rest_at : ℕ) (rest : List ℕ) → IsDirective line hash word rest_at rest
      → r ≡ with_output out (in_sections s (passed (at + hash) (verb_of word) s.sections))
      → Line s out at line comment r

line_sort : (s : State) (out : Output) (at : ℕ) (line : List ℕ) (comment : Option LexFault) (r : AfterLine) → LineDoes s out at line comment r → Line s out at line comment r
line_sort s out at line comment r (KeptText kept other tokens read more take) = OfText kept other (Ends tokens None read more take refl)
line_sort s out at line comment r (KeptFlaw kept other tokens fault read more take) = OfText kept other (Ends tokens (Some fault) read more take refl)
line_sort s out at line comment r (KeptLimit kept other tokens rest read fault stop) = OfText kept other (Limit tokens rest read fault stop refl)
line_sort s out at line comment r (PassedText kept other) = OfPassedText kept other refl
line_sort s out at line comment r (KeptDirective kept hash word rest_at rest is result obeys) = OfDirective kept hash word rest_at rest is result obeys refl
line_sort s out at line comment r (PassedDirective kept hash word rest_at rest is after e) = OfPassedDirective kept hash word rest_at rest is (sym e)

kept_or_not : (b : Bool) → b ≡ true → b ≡ false → ⊥
kept_or_not b e f = let k = sym e ∙ f in cc

other_or_not : (line : List ℕ) (hash : ℕ) (word : List ℕ) (at : ℕ) (rest : List ℕ) → IsOther line → IsDirective line hash word at rest → ⊥
other_or_not line hash word at rest other is = other.by is.following is.first

obeys_at : (s : State) (hash at : ℕ) (rest : List ℕ) (comment : Option LexFault) (verb : Verb) (hash' at' : ℕ) (rest' : List ℕ) (verb' : Verb) (result : Result State MacroFault)
    → hash ≡ hash' → at ≡ at' → rest ≡ rest' → verb ≡ verb' → Obeys s hash at rest comment verb result → Obeys s hash' at' rest' comment verb' result
obeys_at s hash at rest comment verb hash' at' rest' verb' result p q r t o =
    subst (λ v. Obeys s hash' at' rest' comment v result) t (subst (λ x. Obeys s hash' at' x comment verb result) r (subst (λ i. Obeys s hash' i rest comment verb result) q (subst (λ i. Obeys s i at rest comment verb result) p o)))

sorts_one : (s : State) (out : Output) (at : ℕ) (line : List ℕ) (comment : Option LexFault) (r q : AfterLine) → Line s out at line comment r → Line s out at line comment q → r ≡ q
sorts_one s out at line comment r q (OfText kept other t) (OfText kept' other' t') = text_one s out at line r q t t'
sorts_one s out at line comment r q (OfText kept other t) (OfPassedText kept' other' e') = absurd (kept_or_not (is_kept s.sections) kept kept')
sorts_one s out at line comment r q (OfText kept other t) (OfDirective kept' h' w' i' x' is' result' o' e') = absurd (other_or_not line h' w' i' x' other is')
sorts_one s out at line comment r q (OfText kept other t) (OfPassedDirective kept' h' w' i' x' is' e') = absurd (other_or_not line h' w' i' x' other is')
sorts_one s out at line comment r q (OfPassedText kept other e) (OfText kept' other' t') = absurd (kept_or_not (is_kept s.sections) kept' kept)
sorts_one s out at line comment r q (OfPassedText kept other e) (OfPassedText kept' other' e') = e ∙ sym e'
sorts_one s out at line comment r q (OfPassedText kept other e) (OfDirective kept' h' w' i' x' is' result' o' e') = absurd (other_or_not line h' w' i' x' other is')
sorts_one s out at line comment r q (OfPassedText kept other e) (OfPassedDirective kept' h' w' i' x' is' e') = absurd (other_or_not line h' w' i' x' other is')
sorts_one s out at line comment r q (OfDirective kept h w i x is result o e) (OfText kept' other' t') = absurd (other_or_not line h w i x other' is)
sorts_one s out at line comment r q (OfDirective kept h w i x is result o e) (OfPassedText kept' other' e') = absurd (other_or_not line h w i x other' is)
sorts_one s out at line comment r q (OfDirective kept h w i x is result o e) (OfDirective kept' h' w' i' x' is' result' o' e') =
    let same = directive_one line h h' w w' i i' x x' is is' in
    let moved = obeys_at s (at + h) (at + i) x comment (verb_of w) (at + h') (at + i') x' (verb_of w') result
    (ap (λ j. at + j) same.same_hash) (ap (λ j. at + j) same.same_at) same.same_rest (ap verb_of same.same_word) o in
    e ∙ ap (with_output out) (obeys_one s (at + h') (at + i') x' comment (verb_of w') result result' moved o') ∙ sym e'
sorts_one s out at line comment r q (OfDirective kept h w i x is result o e) (OfPassedDirective kept' h' w' i' x' is' e') = absurd (kept_or_not (is_kept s.sections) kept kept')
sorts_one s out at line comment r q (OfPassedDirective kept h w i x is e) (OfText kept' other' t') = absurd (other_or_not line h w i x other' is)
sorts_one s out at line comment r q (OfPassedDirective kept h w i x is e) (OfPassedText kept' other' e') = absurd (other_or_not line h w i x other' is)
sorts_one s out at line comment r q (OfPassedDirective kept h w i x is e) (OfDirective kept' h' w' i' x' is' result' o' e') = absurd (kept_or_not (is_kept s.sections) kept' kept)
sorts_one s out at line comment r q (OfPassedDirective kept h w i x is e) (OfPassedDirective kept' h' w' i' x' is' e') =
    let same = directive_one line h h' w w' i i' x x' is is' in
    e ∙ ap (λ j. with_output out (in_sections s (passed (at + j) (verb_of w) s.sections))) same.same_hash
    ∙ ap (λ v. with_output out (in_sections s (passed (at + h') (verb_of v) s.sections))) same.same_word ∙ sym e'

pub line_one : (s : State) (out : Output) (at : ℕ) (line : List ℕ) (comment : Option LexFault) (r q : AfterLine) → LineDoes s out at line comment r → LineDoes s out at line comment q → r ≡ q
line_one s out at line comment r q g h = sorts_one s out at line comment r q (line_sort s out at line comment r g) (line_sort s out at line comment q h)
