-- From what `clap` finds in words to what they ask for.
use Rattle.std.proofs.Common.{◌≡◌, ◌<◌, ◌∙◌, arith, ℕ, Bool, true, false, refl, sym, ap, List, Option, Some, None, codes, cond}
use Rattle.std.specs.Prelude.{nat_lt, option_and_then}
use Rattle.std.specs.Str.{bytes_eq}
use Rattle.std.specs.Str.Parse.{digits_value, without_leading_plus}
use Rattle.std.proofs.lemmas.Bool.{lt-ltb}
use Rattle.std.proofs.lemmas.Slice.Eq.{bytes_eq-Decides}
use Rattle.clap.specs.Values.{IsUnsignedIn}
use Rattle.clap.specs.declared.builder.value_parser.ValueParser.TheVariants as parser
use Rattle.clap.proofs.ValueTestLemmas.{accepts-Accepts}
use Rattle.clap.specs.Words.{App, Row, Text, is_simple_and_free, matches_of, one_of}
use Rattle.cc_options.specs.Options.{Options, Values, app_of_options, values_in, values_of}
use Rattle.cc_words.specs.Asked.{Asked, app_of_name, asked_to, is_number_to, is_taken, name_of, number_to, rows_ask}
use Rattle.cc_words.specs.Commands.{greatest_registers, greatest_step}
use Rattle.cc_words.specs.Tables.{byte_of, options_of_name, values_ask}
use Rattle.cc_words.specs.declared.name.Name.{Name}
use Rattle.cc_words.specs.declared.name.Name.TheVariants as name

-- a byte holds a number to a small one
byte_fits : (greatest : ℕ) → greatest < 256 → (o : Option Text) → byte_of (option_and_then (number_to greatest) o) ≡ option_and_then (number_to greatest) o
byte_fits greatest small None = refl
byte_fits greatest small (Some text) = go (is_number_to greatest text) refl
  where
    value : ℕ
    value = digits_value 10 (without_leading_plus text)

    go : (b : Bool) → is_number_to greatest text ≡ b → byte_of (number_to greatest text) ≡ number_to greatest text
    go true e =
        let is : IsUnsignedIn 1 greatest text = accepts-Accepts false (parser.Unsigned 1 greatest) text e in
        let below : nat_lt value 256 ≡ true = lt-ltb value 256 (omega (arith, small, is.3)) in
        let here : number_to greatest text ≡ Some value = ap (λ b. cond b (Some value) None) e in
        ap byte_of here ∙ ap (λ b. cond b (Some value) None) below ∙ sym here
    go false e =
        let here : number_to greatest text ≡ None = ap (λ b. cond b (Some value) None) e in
        ap byte_of here ∙ sym here

-- what the values of matches ask for is what the matches do
rows_same : (n : Name) (rows : List Row) → values_ask n (values_in (options_of_name n) rows) ≡ rows_ask n rows
rows_same name.Build rows = rw (byte_fits greatest_registers (omega arith) (one_of (codes "registers") rows), byte_fits greatest_step (omega arith) (one_of (codes "step") rows)) refl
rows_same name.Run rows = refl
rows_same name.Means rows = refl
rows_same name.Exec rows = refl
rows_same name.Layout rows = rw (byte_fits greatest_registers (omega arith) (one_of (codes "registers") rows)) refl
rows_same name.Check rows = refl
rows_same name.Asm rows = refl
rows_same name.Dis rows = refl
rows_same name.Gen rows = refl
rows_same name.Debug rows = refl
rows_same name.Pre rows = refl
rows_same name.Join rows = refl
rows_same name.Pbuild rows = rw (byte_fits greatest_registers (omega arith) (one_of (codes "registers") rows)) refl

app_same : (n : Name) → app_of_options (options_of_name n) ≡ app_of_name n
app_same name.Build = refl
app_same name.Run = refl
app_same name.Means = refl
app_same name.Exec = refl
app_same name.Layout = refl
app_same name.Check = refl
app_same name.Asm = refl
app_same name.Dis = refl
app_same name.Gen = refl
app_same name.Debug = refl
app_same name.Pre = refl
app_same name.Join = refl
app_same name.Pbuild = refl

-- each command is a simple one
simple_name : (n : Name) → is_simple_and_free (app_of_name n) ≡ true
simple_name name.Build = refl
simple_name name.Run = refl
simple_name name.Means = refl
simple_name name.Exec = refl
simple_name name.Layout = refl
simple_name name.Check = refl
simple_name name.Asm = refl
simple_name name.Dis = refl
simple_name name.Gen = refl
simple_name name.Debug = refl
simple_name name.Pre = refl
simple_name name.Join = refl
simple_name name.Pbuild = refl

pub all_simple : (n : Name) (o : Options) → o ≡ options_of_name n → is_simple_and_free (app_of_options o) ≡ true
all_simple n o is = ap (λ (p : Options). is_simple_and_free (app_of_options p)) is ∙ ap is_simple_and_free (app_same n) ∙ simple_name n

given_asks : (f : Values → Option Asked) (g : List Row → Option Asked) (o : Options) (words : List Text) → ((rows : List Row) → f (values_in o rows) ≡ g rows)
    → option_and_then f (values_of o words) ≡ asked_to (app_of_options o) g words
unfolding values_of asked_to
given_asks f g o words h = go (is_taken (app_of_options o) words)
  where
    rows : List Row
    rows = matches_of (app_of_options o) words

    go : (b : Bool) → option_and_then f (cond b (Some (values_in o rows)) None) ≡ cond b (g rows) None
    go true = h rows
    go false = refl

-- the words are taken or refused, and their values say what they ask for
pub asks : (n : Name) (o : Options) (words : List Text) (r : Option Values) → o ≡ options_of_name n → r ≡ values_of o words → option_and_then (values_ask n) r ≡ asked_to (app_of_name n) (rows_ask n) words
asks n o words r is given =
    ap (option_and_then (values_ask n)) (given ∙ ap (λ (p : Options). values_of p words) is) ∙ given_asks (values_ask n) (rows_ask n) (options_of_name n) words (rows_same n)
    ∙ ap (λ (a : App). asked_to a (rows_ask n) words) (app_same n)

no_text : (word other : Text) → (word ≡ other → ⊥) → bytes_eq word other ≡ false
no_text word other differ = go (bytes_eq word other) refl
  where
    go : (b : Bool) → bytes_eq word other ≡ b → bytes_eq word other ≡ false
    go true e = absurd (differ ((bytes_eq-Decides word other).0 e))
    go false e = e

-- a word that names no command
pub no_name : (word : Text) → (word ≡ codes "build" → ⊥) → (word ≡ codes "run" → ⊥) → (word ≡ codes "means" → ⊥) → (word ≡ codes "exec" → ⊥) → (word ≡ codes "layout" → ⊥) → (word ≡ codes "check" → ⊥) → (word ≡ codes "asm" → ⊥) → (word ≡ codes "dis" → ⊥) → (word ≡ codes "gen" → ⊥) → (word ≡ codes "debug" → ⊥) → (word ≡ codes "pre" → ⊥) → (word ≡ codes "join" → ⊥) → (word ≡ codes "pbuild" → ⊥) → None ≡ name_of word
no_name word not_build not_run not_means not_exec not_layout not_check not_asm not_dis not_gen not_debug not_pre not_join not_pbuild =
    rw (no_text word (codes "build") not_build, no_text word (codes "run") not_run, no_text word (codes "means") not_means, no_text word (codes "exec") not_exec, no_text word (codes "layout") not_layout, no_text word (codes "check") not_check, no_text word (codes "asm") not_asm, no_text word (codes "dis") not_dis, no_text word (codes "gen") not_gen, no_text word (codes "debug") not_debug, no_text word (codes "pre") not_pre, no_text word (codes "join") not_join, no_text word (codes "pbuild") not_pbuild) refl
