-- What `clap` makes of the words of `join`.
use Rattle.std.proofs.Common.{◌≡◌, ◌∙◌, ◌<◌, ◌≤◌, arith, ℕ, ◌+◌, Bool, true, false, ne_eqb, refl, sym, ap, subst, suc, List, [], ◌∷◌, ◌++◌, length, drop, Option, Some, None, codes, cond, append-nil, append_assoc}
use Rattle.std.specs.Prelude.{◌==◌, ⊤, All, fold, get_or, is_some, slice_get, encode_utf8}
use Rattle.std.specs.Str.{bytes_eq, chars}
use Rattle.std.proofs.lemmas.List.{length-append}
use Rattle.clap.specs.Lexer.{long_of, short_of}
use Rattle.std.proofs.lemmas.Bool.{le-leb, lt-ltb, le-ltb}
use Rattle.clap.specs.Faults.{check_fault, defaults_fault, entered_fault, flags_fault, long_fault, option_fault, react_fault, settle_fault, short_fault, turn_fault, walk_fault}
use Rattle.clap.specs.Kinds.{or_else, values_kinds}
use Rattle.clap.specs.Simple.{App, built, entered}
use Rattle.clap.specs.Walk.{Held, Walk, arg_by_long, arg_by_short, attached_value, bundle_met, finished, is_empty, nothing_held, positional, reacted, settled, takes_values, walk, walk_from, walked}
use Rattle.clap.specs.Words.{Kinds, Rule, Text, fault_of, matches_of}
use Rattle.clap.specs.declared.builder.value_parser.ValueParser.TheVariants as parser
use Rattle.clap.specs.declared.error.kind.ErrorKind.TheVariants as kind
use Rattle.clap.proofs.OnLiterals.{clap_on_literals}
use Rattle.cc_words.specs.Asked.{ToJoin, asked_to, asked_to_join, is_plain_word, is_taken, join_of}
use Rattle.cc_words.specs.Commands.{join_app, most_sources}
use Rattle.cc_words_proof.specs.Plain.{JoinsNames, JoinsNoOtherNames}
use Rattle.cc_words_proof.proofs.PlainLemmas.{IsNoFlag, no_flag}

abbrev app : App
app = built join_app

abbrev rules : List Rule
rules = app.top.rules

-- where the walk stands behind the output and some sources
abbrev behind : Text → List Text → Walk
behind output sources = record {
  held = record (settled rules (record { rows = []; pending = Some (codes "output", output ∷ []); skip = 0 })) { pending = Some (codes "sources", sources) };
  waiting = positional;
  position = 2;
  is_trailing = false;
  stopped = None;
}

-- the output and a first source, and then one more
begins : (output word : Text) → IsNoFlag output → IsNoFlag word → walked rules [] (walked rules [] (walk_from nothing_held) output) word ≡ behind output (word ∷ [])
unfolding clap_on_literals
begins output word fo fw = rw (fo.0, fo.1, fo.2, fw.0, fw.1, fw.2) refl

goes_on : (output : Text) (sources : List Text) (word : Text) → IsNoFlag word → walked rules [] (behind output sources) word ≡ behind output (sources ++ word ∷ [])
unfolding clap_on_literals
goes_on output sources word f = rw (f.0, f.1, f.2) refl

output_well : (output : Text) → IsNoFlag output → turn_fault app.top [] (walk_from nothing_held) output ≡ []
unfolding clap_on_literals
output_well output fo = rw (fo.0, fo.1, fo.2) refl

begins_well : (output word : Text) → IsNoFlag output → IsNoFlag word → turn_fault app.top [] (walked rules [] (walk_from nothing_held) output) word ≡ []
unfolding clap_on_literals
begins_well output word fo fw = rw (fo.0, fo.1, fo.2, fw.0, fw.1, fw.2) refl

goes_on_well : (output : Text) (sources : List Text) (word : Text) → IsNoFlag word → turn_fault app.top [] (behind output sources) word ≡ []
unfolding clap_on_literals
goes_on_well output sources word f = rw (f.0, f.1, f.2) refl

abbrev AreNoFlags : List Text → Type 0
AreNoFlags = All IsNoFlag

no_flags : (words : List Text) → All (λ word. is_plain_word word ≡ true) words → AreNoFlags words
no_flags words plain k d lt = no_flag (get_or words k d) (plain k d lt)

rest_of : (word : Text) (words : List Text) → AreNoFlags (word ∷ words) → AreNoFlags words
rest_of word words all k d lt = all (suc k) d (omega (arith, lt))

ends : (output : Text) (words : List Text) → AreNoFlags words → (sources : List Text) → fold (walked rules []) (behind output sources) words ≡ behind output (sources ++ words)
ends output [] all sources = ap (behind output) (sym (append-nil sources))
ends output (word ∷ words) all sources =
    ap (λ w. fold (walked rules []) w words) (goes_on output sources word (all 0 word (omega arith)))
    ∙ ends output words (rest_of word words all) (sources ++ word ∷ [])
    ∙ ap (behind output) (append_assoc sources (word ∷ []) words)

ends_well : (output : Text) (words : List Text) → AreNoFlags words → (sources : List Text) → walk_fault app.top [] (behind output sources) words ≡ []
unfolding walk_fault
ends_well output [] all sources = refl
ends_well output (word ∷ words) all sources =
    rw (goes_on_well output sources word (all 0 word (omega arith)), goes_on output sources word (all 0 word (omega arith)))
    (ends_well output words (rest_of word words all) (sources ++ word ∷ []))

-- the walk over an output and sources
walk_is : (output word : Text) (words : List Text) → IsNoFlag output → AreNoFlags (word ∷ words) → walk rules [] nothing_held (output ∷ word ∷ words) ≡ behind output (word ∷ words)
walk_is output word words fo all =
    ap (λ w. fold (walked rules []) w words) (begins output word fo (all 0 word (omega arith)))
    ∙ ends output words (rest_of word words all) (word ∷ [])

walk_is_well : (output word : Text) (words : List Text) → IsNoFlag output → AreNoFlags (word ∷ words) → walk_fault app.top [] (walk_from nothing_held) (output ∷ word ∷ words) ≡ []
unfolding walk_fault
walk_is_well output word words fo all =
    let fw : IsNoFlag word = all 0 word (omega arith) in
    rw (output_well output fo, begins_well output word fo fw, begins output word fo fw) (ends_well output words (rest_of word words all) (word ∷ []))

-- what is wrong behind the words
abbrev wrong_at_end : Walk → Kinds
wrong_at_end w = or_else (entered_fault app w.stopped)
    (or_else (settle_fault rules false w.held)
    (or_else (defaults_fault (settled rules w.held).rows rules)
    (check_fault app.top (finished rules w.held) (is_some (entered app w.stopped)))))

fault_is : (words : List Text) → fault_of join_app (codes "join" ∷ words) ≡ or_else (walk_fault app.top [] (walk_from nothing_held) words) (wrong_at_end (walk rules [] nothing_held words))
fault_is words = refl

rows_are : (words : List Text) → matches_of join_app (codes "join" ∷ words) ≡ finished rules (walk rules [] nothing_held words).held
rows_are words = refl

-- any text is a source
sources_pass : (sources : List Text) → values_kinds false parser.String sources ≡ []
sources_pass [] = refl
sources_pass (source ∷ sources) = sources_pass sources

not_zero : (n : ℕ) → (suc n == 0) ≡ false
not_zero n = ne_eqb (suc n) 0 (λ e. absurd (omega (arith, e)))

few_pass : (output word : Text) (words : List Text) → length (word ∷ words) ≤ most_sources → wrong_at_end (behind output (word ∷ words)) ≡ []
unfolding clap_on_literals
few_pass output word words fit =
    rw (not_zero (length words), le-ltb (suc (length words)) 1 (omega arith), le-ltb most_sources (suc (length words)) fit, sources_pass words) refl

-- one to sixteen sources
taken : (output word : Text) (words : List Text) → IsNoFlag output → AreNoFlags (word ∷ words) → length (word ∷ words) ≤ most_sources
    → is_taken join_app (codes "join" ∷ output ∷ word ∷ words) ≡ true
taken output word words fo all fit =
    ap is_empty (fault_is (output ∷ word ∷ words)
    ∙ ap (λ w. or_else (walk_fault app.top [] (walk_from nothing_held) (output ∷ word ∷ words)) (wrong_at_end w)) (walk_is output word words fo all)
    ∙ ap (λ ks. or_else ks (wrong_at_end (behind output (word ∷ words)))) (walk_is_well output word words fo all)
    ∙ few_pass output word words fit)

held : (output word : Text) (words : List Text) → length (word ∷ words) ≤ most_sources → join_of (finished rules (behind output (word ∷ words)).held) ≡ Some (ToJoin output (word ∷ words))
held output word words fit = rw (le-leb 1 (suc (length words)) (omega arith), le-leb (suc (length words)) most_sources fit) refl

pub join_names : JoinsNames
unfolding asked_to
join_names output [] po ps some fit = absurd (omega arith)
join_names output (word ∷ words) po ps some fit =
    rw (taken output word words (no_flag output po) (no_flags (word ∷ words) ps) fit)
    (ap join_of (rows_are (output ∷ word ∷ words) ∙ ap (λ w. finished rules w.held) (walk_is output word words (no_flag output po) (no_flags (word ∷ words) ps)))
    ∙ held output word words fit)

-- `join` of no names, and of one
not_taken : (words : List Text) → is_taken join_app words ≡ false → asked_to_join words ≡ None
unfolding asked_to
not_taken words e = ap (λ b. cond b (join_of (matches_of join_app words)) None) e

no_name : is_taken join_app (codes "join" ∷ []) ≡ false
unfolding clap_on_literals
no_name = refl

one_name : (a : Text) → IsNoFlag a → is_taken join_app (codes "join" ∷ a ∷ []) ≡ false
unfolding clap_on_literals
one_name a fa = rw (fa.0, fa.1, fa.2) refl

-- ---- more than sixteen sources, whatever follows

-- there is a kind
abbrev Full : Kinds → Type 0
Full [] = ⊥
Full (k ∷ ks) = ⊤

full_is : (ks : Kinds) → Full ks → is_empty ks ≡ false
full_is [] f = absurd f
full_is (k ∷ ks) f = not_zero (length ks)

or_full : (ks more : Kinds) → Full ks → Full (or_else ks more)
or_full [] more f = absurd f
or_full (k ∷ ks) more f = tt

-- the sources can't be used, being too many
many_fail : (output : Text) (sources : List Text) → most_sources < length sources → Full (settle_fault rules false (behind output sources).held)
many_fail output [] over = absurd (omega arith)
many_fail output (word ∷ words) over =
    rw (not_zero (length words), le-ltb (suc (length words)) 1 (omega arith), lt-ltb most_sources (suc (length words)) over) tt

-- so whatever is used behind them is refused
module _ (h : Held) (f : Full (settle_fault rules false h)) where
  option_fails : (a : Rule) (v : Option Text) → Full (option_fault rules false a v h)
  option_fails a None = f
  option_fails a (Some t) = or_full _ _ f

  long_fails : (o : Option Rule) (v : Option Text) → Full (long_fault rules false o v h)
  long_fails None v = tt
  long_fails (Some a) v = go (takes_values a) v
    where
      go : (b : Bool) (v : Option Text) → Full (cond b (option_fault rules false a v h) (cond (is_some v) (kind.TooManyValues ∷ []) (react_fault rules false a [] h)))
      go true v = option_fails a v
      go false None = or_full _ _ f
      go false (Some t) = tt

  short_fails : (o : Option Rule) (rest : Text) (next : Held → Kinds) → Full (short_fault rules false o rest h next)
  short_fails None rest next = tt
  short_fails (Some a) rest next = go (takes_values a)
    where
      go : (b : Bool) → Full (cond b (option_fault rules false a (attached_value rest) h) (or_else (react_fault rules false a [] h) (next (reacted rules a [] h))))
      go true = option_fails a (attached_value rest)
      go false = or_full _ _ (or_full _ _ f)

-- where the walk stands behind some sources, and maybe a `--`
abbrev on : Text → List Text → Bool → Walk
on output sources trailing = record (behind output sources) { is_trailing = trailing }

-- a next word is refused, or it is one more source or a `--`
data Turn (output : Text) (sources : List Text) (trailing : Bool) (word : Text) : Type 0 where
  Refused : Full (turn_fault app.top [] (on output sources trailing) word) → Turn output sources trailing word
  Taken : turn_fault app.top [] (on output sources trailing) word ≡ [] → (more : List Text) (now : Bool) → walked rules [] (on output sources trailing) word ≡ on output more now
      → length sources ≤ length more → Turn output sources trailing word

module _ (output : Text) (sources : List Text) (over : most_sources < length sources) (word : Text) where
  no_fewer : length sources ≤ length (sources ++ word ∷ [])
  no_fewer = let e : length (sources ++ word ∷ []) ≡ length sources + 1 = length-append sources (word ∷ []) in omega (arith, e)

  short_turn : bytes_eq word (45 ∷ 45 ∷ []) ≡ false → long_of word ≡ None → (flags : Text) → short_of word ≡ Some flags → Turn output sources false word
  unfolding walked bundle_met flags_fault
  short_turn dash long [] short = Taken (rw (dash, long, short) refl) (sources ++ word ∷ []) false (rw (dash, long, short) refl) no_fewer
  short_turn dash long (x ∷ flags) short = go (slice_get (chars (x ∷ flags)) 0) refl
    where
      go : (o : Option ℕ) → slice_get (chars (x ∷ flags)) 0 ≡ o → Turn output sources false word
      go None e = Taken (rw (dash, long, short, e) refl) (sources ++ word ∷ []) false (rw (dash, long, short, e) refl) no_fewer
      go (Some c) e = Refused (rw (dash, long, short, e) (or_full _ _ (short_fails (behind output sources).held (many_fail output sources over) (arg_by_short rules c) (drop (length (encode_utf8 c)) (x ∷ flags)) _)))

  turn : (trailing : Bool) → Turn output sources trailing word
  unfolding walked
  turn true = Taken refl (sources ++ word ∷ []) true refl no_fewer
  turn false = dashes (bytes_eq word (45 ∷ 45 ∷ [])) refl
    where
      shorts : bytes_eq word (45 ∷ 45 ∷ []) ≡ false → long_of word ≡ None → (o : Option Text) → short_of word ≡ o → Turn output sources false word
      shorts dash long None short = Taken (rw (dash, long, short) refl) (sources ++ word ∷ []) false (rw (dash, long, short) refl) no_fewer
      shorts dash long (Some flags) short = short_turn dash long flags short

      longs : bytes_eq word (45 ∷ 45 ∷ []) ≡ false → (o : Option (Text × Option Text)) → long_of word ≡ o → Turn output sources false word
      longs dash None long = shorts dash long (short_of word) refl
      longs dash (Some p) long = Refused (rw (dash, long) (or_full _ _ (long_fails (behind output sources).held (many_fail output sources over) (arg_by_long rules p.0) p.1)))

      dashes : (b : Bool) → bytes_eq word (45 ∷ 45 ∷ []) ≡ b → Turn output sources false word
      dashes true dash = Taken (rw dash refl) sources true (rw dash refl) (omega arith)
      dashes false dash = longs dash (long_of word) refl

-- what is wrong with the words that follow, and at the end
abbrev wrong : Walk → List Text → Kinds
wrong w words = or_else (walk_fault app.top [] w words) (wrong_at_end (fold (walked rules []) w words))

wrong_now : (w : Walk) (word : Text) (rest : List Text) → Full (turn_fault app.top [] w word) → Full (wrong w (word ∷ rest))
unfolding walk_fault
wrong_now w word rest f = or_full _ _ (or_full _ _ f)

wrong_later : (w after : Walk) (word : Text) (rest : List Text) → turn_fault app.top [] w word ≡ [] → walked rules [] w word ≡ after → Full (wrong after rest) → Full (wrong w (word ∷ rest))
unfolding walk_fault
wrong_later w after word rest well is f = subst Full
    (sym (ap (λ ks. or_else (or_else ks (walk_fault app.top [] (walked rules [] w word) rest)) (wrong_at_end (fold (walked rules []) (walked rules [] w word) rest))) well ∙ ap (λ v. wrong v rest) is)) f

-- so a word is refused, or the sources at the end
fails : (output : Text) (rest : List Text) (sources : List Text) → most_sources < length sources → (trailing : Bool) → Full (wrong (on output sources trailing) rest)
unfolding walk_fault
fails output [] sources over trailing = or_full _ _ (many_fail output sources over)
fails output (word ∷ rest) sources over trailing = go (turn output sources over word trailing) (λ more many now. fails output rest more many now)
  where
    go : Turn output sources trailing word → ((more : List Text) → most_sources < length more → (now : Bool) → Full (wrong (on output more now) rest)) → Full (wrong (on output sources trailing) (word ∷ rest))
    go (Refused f) next = wrong_now (on output sources trailing) word rest f
    go (Taken well more now is fit) next = wrong_later (on output sources trailing) (on output more now) word rest well is (next more (omega (arith, over, fit)) now)

fails_behind : (output : Text) (words : List Text) → AreNoFlags words → (sources rest : List Text) → most_sources < length sources + length words → Full (wrong (behind output sources) (words ++ rest))
fails_behind output [] all sources rest over = fails output rest sources (omega (arith, over)) false
fails_behind output (word ∷ words) all sources rest over =
    let e : length (sources ++ word ∷ []) ≡ length sources + 1 = length-append sources (word ∷ []) in
    let f : IsNoFlag word = all 0 word (omega arith) in
    wrong_later (behind output sources) (behind output (sources ++ word ∷ [])) word (words ++ rest) (goes_on_well output sources word f) (goes_on output sources word f)
    (fails_behind output words (rest_of word words all) (sources ++ word ∷ []) rest (omega (arith, over, e)))

too_many_fail : (output word : Text) (words rest : List Text) → IsNoFlag output → AreNoFlags (word ∷ words) → most_sources < length (word ∷ words) → Full (wrong (walk_from nothing_held) (output ∷ word ∷ (words ++ rest)))
too_many_fail output word words rest fo all over =
    let fw : IsNoFlag word = all 0 word (omega arith) in
    let first : Walk = walked rules [] (walk_from nothing_held) output in
    wrong_later (walk_from nothing_held) first output (word ∷ (words ++ rest)) (output_well output fo) refl
    (wrong_later first (behind output (word ∷ [])) word (words ++ rest) (begins_well output word fo fw) (begins output word fo fw)
    (fails_behind output words (rest_of word words all) (word ∷ []) rest (omega (arith, over))))

too_many : (output : Text) (sources : List Text) → is_plain_word output ≡ true → All (λ word. is_plain_word word ≡ true) sources → (rest : List Text) → most_sources < length sources
    → asked_to_join (codes "join" ∷ output ∷ (sources ++ rest)) ≡ None
too_many output [] po ps rest over = absurd (omega arith)
too_many output (word ∷ words) po ps rest over =
    let words_here : List Text = output ∷ word ∷ (words ++ rest) in
    not_taken (codes "join" ∷ words_here)
    (ap is_empty (fault_is words_here) ∙ full_is _ (too_many_fail output word words rest (no_flag output po) (no_flags (word ∷ words) ps) over))

pub join_other_names : JoinsNoOtherNames
join_other_names = (not_taken (codes "join" ∷ []) no_name, λ a pa. not_taken (codes "join" ∷ a ∷ []) (one_name a (no_flag a pa)), too_many)
