-- From what `clap` says of its matches to what the words give a command.
use Rattle.std.proofs.Common.{◌≡◌, ◌∙◌, ◌<◌, ◌≤◌, arith, ℕ, suc, Bool, true, false, refl, sym, ap, subst, List, [], ◌∷◌, length, map, Option, Some, None, Result, Ok, Err, cond, true≢false}
use Rattle.std.specs.Prelude.{◌^◌, ◌&&◌, ◌==◌, nat_le, nat_lt, option_and_then, option_map}
use Rattle.std.specs.Borrow.{Bor}
use Rattle.std.specs.Str.Parse.{ParsesUnsigned, digits_value, without_leading_plus}
use Rattle.std.proofs.lemmas.Bool.{eqb-true, le-leb, lt-leb}
use Rattle.std.proofs.lemmas.List.{length-map}
use Rattle.clap.specs.Matches.{ReadsOne, matched_of, one_text, raw_values}
use Rattle.clap.specs.Values.{IsUnsignedIn}
use Rattle.clap.specs.ValueTests.{is_numeral, is_unsigned_in}
use Rattle.clap.specs.Words.{App, Row, Text, is_simple, is_simple_and_free, matches_of, rows_of}
use Rattle.clap.specs.declared.builder.value_parser.ValueParser.TheVariants as parser
use Rattle.clap.specs.declared.parser.matches.Found.{Found}
use Rattle.clap.proofs.ValueTestLemmas.{Accepts-accepts, accepts-Accepts}
use Rattle.clap.proofs.WalkLemmas.{both, one_text-rows, raw_values-rows}
use Rattle.cc_options.specs.Options.{Options, Several, Values, app_of_options, is_number_to, is_taken, name_of, names_in, number_of, number_to, up_to, values_in, values_of, within}

pub simple_of : (a : App) → is_simple_and_free a ≡ true → is_simple a ≡ true
simple_of a e = (both _ _ e).0

-- a text that reads as a number of 64 bits
number_read : (E : Type 0) (greatest : ℕ) (text : Text) (n : ℕ) → ReadsOne (λ bs (x : Result ℕ E). ParsesUnsigned 64 10 bs x) text (Some n) → number_to greatest text ≡ within greatest n
number_read E greatest text n h =
    let value : ℕ = digits_value 10 (without_leading_plus text) in
    let wide : is_unsigned_in 0 value text ≡ true = Accepts-accepts false (parser.Unsigned 0 value) text (h.0.0, h.0.1, omega arith, omega arith) in
    let parts : (is_numeral (without_leading_plus text) ≡ true) × ((nat_lt value (2 ^ 64) && (nat_le 0 value && nat_le value value)) ≡ true) = both _ _ wide in
    let small : nat_lt value (2 ^ 64) ≡ true = (both _ _ parts.1).0 in
    rw (h.1, parts.0, small) refl

-- and one that doesn't
no_number_read : (E : Type 0) (greatest : ℕ) (text : Text) → ReadsOne (λ bs (x : Result ℕ E). ParsesUnsigned 64 10 bs x) text None → number_to greatest text ≡ None
no_number_read E greatest text h = go (is_number_to greatest text) refl
  where
    go : (b : Bool) → is_number_to greatest text ≡ b → number_to greatest text ≡ None
    go true e =
        let is : IsUnsignedIn 1 greatest text = accepts-Accepts false (parser.Unsigned 1 greatest) text e in
        absurd (h.1 (is.0, is.1))
    go false e = ap (λ b. cond b (Some (digits_value 10 (without_leading_plus text))) None) e

-- what a getter gives of what the matches hold
module _ (E : Type 0) (G : List ℕ → Result ℕ E → Type 0) (only : (u : List ℕ) (x : Result ℕ E) → G u x → ParsesUnsigned 64 10 u x) (f : Found) (id : Text) (greatest : ℕ) where
  pub number_given : (n : ℕ) → (one_text f id ≡ None → Some n ≡ None) → ((t : Text) → one_text f id ≡ Some t → ReadsOne G t (Some n)) → number_of id greatest (rows_of f) ≡ within greatest n
  number_given n none value = ap (option_and_then (number_to greatest)) (sym (one_text-rows f id)) ∙ go (one_text f id) refl
    where
      go : (o : Option Text) → one_text f id ≡ o → option_and_then (number_to greatest) o ≡ within greatest n
      go None e = let bad : Some n ≡ None = none e in cc
      go (Some t) e = number_read E greatest t n (only t (Ok n) (value t e))

  pub none_given : ((t : Text) → one_text f id ≡ Some t → ReadsOne G t None) → number_of id greatest (rows_of f) ≡ None
  none_given value = ap (option_and_then (number_to greatest)) (sym (one_text-rows f id)) ∙ go (one_text f id) refl
    where
      go : (o : Option Text) → one_text f id ≡ o → option_and_then (number_to greatest) o ≡ None
      go None e = refl
      go (Some t) e =
          let h = value t e in
          no_number_read E greatest t (h.0, only t (Err h.0) h.1)

-- names are from one to the most that there may be, or they aren't
pub too_few : (most : ℕ) (names : List (Bor Text)) → (length names == 0) ≡ true → None ≡ up_to most (map name_of names)
too_few most [] e = refl
too_few most (name ∷ names) e = let none : suc (length names) ≡ 0 = eqb-true (suc (length names)) 0 e in absurd (omega (arith, none))

pub too_many : (most : ℕ) (names : List (Bor Text)) → most < length names → None ≡ up_to most (map name_of names)
too_many most [] over = absurd (omega arith)
too_many most (name ∷ names) over = rw (length-map names name_of, le-leb 1 (suc (length names)) (omega arith), lt-leb (suc (length names)) most over) refl

pub as_many_as_may_be : (most : ℕ) (names : List (Bor Text)) → (length names == 0) ≡ false → length names ≤ most → Some (map name_of names) ≡ up_to most (map name_of names)
as_many_as_may_be most [] some fit = absurd (true≢false some)
as_many_as_may_be most (name ∷ names) some fit =
    rw (length-map names name_of, le-leb 1 (suc (length names)) (omega arith), le-leb (suc (length names)) most fit) refl

-- what the getter of several texts gives of what the matches hold
pub names_given : (f : Found) (s : Several) (names : Option (List Text)) (r : Option (List Text)) → names ≡ option_map raw_values (matched_of f s.id)
    → r ≡ option_and_then (up_to s.most) names → r ≡ names_in (rows_of f) s
names_given f s names r held is = is ∙ ap (option_and_then (up_to s.most)) (held ∙ raw_values-rows f s.id)

-- the words are taken, and the matches say what they give
pub taken : (app : App) (o : Options) (words : List Text) (rows : List Row) (v : Values) → app ≡ app_of_options o → is_taken app words ≡ true → rows ≡ matches_of app words → v ≡ values_in o rows → Some v ≡ values_of o words
unfolding values_of
taken app o words rows v is fits same holds =
    let fits_here : is_taken (app_of_options o) words ≡ true = subst (λ (a : App). is_taken a words ≡ true) is fits in
    ap Some (holds ∙ ap (values_in o) (same ∙ ap (λ (a : App). matches_of a words) is)) ∙ sym (ap (λ b. cond b (Some (values_in o (matches_of (app_of_options o) words))) None) fits_here)

pub refused : (app : App) (o : Options) (words : List Text) → app ≡ app_of_options o → is_taken app words ≡ false → None ≡ values_of o words
unfolding values_of
refused app o words is fails =
    let fails_here : is_taken (app_of_options o) words ≡ false = subst (λ (a : App). is_taken a words ≡ false) is fails in
    sym (ap (λ b. cond b (Some (values_in o (matches_of (app_of_options o) words))) None) fails_here)
