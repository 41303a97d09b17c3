-- What is asked for is within the ranges of its numbers.
use Rattle.std.proofs.Common.{◌≡◌, ℕ, Bool, true, false, refl, ap, subst, List, [], ◌∷◌, length, Option, Some, None, codes, cond}
use Rattle.std.specs.Prelude.{option_and_then, option_map, unwrap_or, IfSome, ◌≤◌, ◌&&◌, nat_le}
use Rattle.std.proofs.lemmas.Bool.{and_parts, leb-true}
use Rattle.std.specs.Str.Parse.{digits_value, without_leading_plus}
use Rattle.clap.specs.Values.{IsUnsignedIn}
use Rattle.clap.proofs.ValueTestLemmas.{accepts-Accepts}
use Rattle.clap.specs.Words.{Row, Text, all_of, first_of, matches_of, one_of}
use Rattle.cc_options.specs.Options.{up_to}
use Rattle.clap.specs.declared.builder.value_parser.ValueParser.TheVariants as parser
use Rattle.cc_words.specs.declared.name.Name.{Name}
use Rattle.cc_words.specs.declared.name.Name.TheVariants as name
use Rattle.cc_words.specs.Asked.{Asked, ToAssemble, ToBuild, ToCheck, ToDebug, ToExpand, ToGenerate, ToJoin, ToList, ToPbuild, ToRun, ToEvaluate, ToExecute, ToLayOut, app_of_name, asked_to, both_of, build_of, debug_of, dis_of, gen_of, join_of, name_of, pbuild_by, pbuild_of, rows_ask, is_number_to, is_taken, layout_of, number_of, number_to, numbered_of}
use Rattle.cc_words.specs.Commands.{greatest_budget, greatest_program, greatest_registers, greatest_step, greatest_steps, greatest_turns, most_sources}
use Rattle.cc_words.specs.Bounds.{AsksWithin, IsWithinBounds}

number_bounded : (greatest : ℕ) (m : Text) (n : ℕ) → number_to greatest m ≡ Some n → (1 ≤ n) × (n ≤ greatest)
number_bounded greatest m n e = go (is_number_to greatest m) refl e
  where
    go : (t : Bool) → is_number_to greatest m ≡ t → cond t (Some (digits_value 10 (without_leading_plus m))) None ≡ Some n → (1 ≤ n) × (n ≤ greatest)
    go false f e = cc
    go true f e =
        let is : digits_value 10 (without_leading_plus m) ≡ n = ap (λ o. unwrap_or o n) e in
        let ok : IsUnsignedIn 1 greatest m = accepts-Accepts false (parser.Unsigned 1 greatest) m f in
        (subst (λ k. 1 ≤ k) is ok.2, subst (λ k. k ≤ greatest) is ok.3)

numbered_bounded : (first second number : Text) (greatest : ℕ) (what : Text → Text → ℕ → Asked) → ((a b : Text) (n : ℕ) → (1 ≤ n) × (n ≤ greatest) → IsWithinBounds (what a b n))
    → (rows : List Row) → IfSome (numbered_of first second number greatest what rows) IsWithinBounds
numbered_bounded first second number greatest what within rows = names (first_of first rows) (first_of second rows) (option_and_then (number_to greatest) (one_of number rows)) refl
  where
    bounded : (o : Option Text) (n : ℕ) → option_and_then (number_to greatest) o ≡ Some n → (1 ≤ n) × (n ≤ greatest)
    bounded None n e = cc
    bounded (Some t) n e = number_bounded greatest t n e

    names : (i p : Option Text) (n : Option ℕ) → option_and_then (number_to greatest) (one_of number rows) ≡ n
        → IfSome (option_and_then (λ a. option_and_then (λ b. option_map (what a b) n) p) i) IsWithinBounds
    names None p n e = tt
    names (Some i) None n e = tt
    names (Some i) (Some p) None e = tt
    names (Some i) (Some p) (Some n) e = within i p n (bounded (one_of number rows) n e)

given_bounded : (number : Text) (greatest : ℕ) (rows : List Row) (n : ℕ) → number_of number greatest rows ≡ Some n → (1 ≤ n) × (n ≤ greatest)
given_bounded number greatest rows = bounded (one_of number rows)
  where
    bounded : (o : Option Text) (n : ℕ) → option_and_then (number_to greatest) o ≡ Some n → (1 ≤ n) × (n ≤ greatest)
    bounded None n e = cc
    bounded (Some t) n e = number_bounded greatest t n e

build_bounded : (rows : List Row) → IfSome (build_of rows) IsWithinBounds
build_bounded rows = parts (first_of (codes "source") rows) (first_of (codes "image") rows) (number_of (codes "registers") greatest_registers rows) (number_of (codes "budget") greatest_budget rows)
    (number_of (codes "step") greatest_step rows) refl refl refl
  where
    parts : (s i : Option Text) (m n d : Option ℕ) → number_of (codes "registers") greatest_registers rows ≡ m → number_of (codes "budget") greatest_budget rows ≡ n → number_of (codes "step") greatest_step rows ≡ d
        → IfSome (option_and_then (λ source. option_and_then (λ image. option_and_then (λ registers. option_and_then (λ budget. option_map (ToBuild source image registers budget) d) n) m) i) s) IsWithinBounds
    parts None i m n d e f g = tt
    parts (Some s) None m n d e f g = tt
    parts (Some s) (Some i) None n d e f g = tt
    parts (Some s) (Some i) (Some m) None d e f g = tt
    parts (Some s) (Some i) (Some m) (Some n) None e f g = tt
    parts (Some s) (Some i) (Some m) (Some n) (Some d) e f g =
        let first = given_bounded (codes "registers") greatest_registers rows m e in
        let second = given_bounded (codes "budget") greatest_budget rows n f in
        let third = given_bounded (codes "step") greatest_step rows d g in
        (first.0, first.1, second.0, second.1, third.0, third.1)

both_bounded : (first second : Text) (what : Text → Text → Asked) → ((a b : Text) → IsWithinBounds (what a b)) → (rows : List Row) → IfSome (both_of first second what rows) IsWithinBounds
both_bounded first second what within rows = names (first_of first rows) (first_of second rows)
  where
    names : (a b : Option Text) → IfSome (option_and_then (λ a. option_map (what a) b) a) IsWithinBounds
    names None b = tt
    names (Some a) None = tt
    names (Some a) (Some b) = within a b

dis_bounded : (rows : List Row) → IfSome (dis_of rows) IsWithinBounds
dis_bounded rows = go (first_of (codes "image") rows)
  where
    go : (o : Option Text) → IfSome (option_map ToList o) IsWithinBounds
    go None = tt
    go (Some image) = tt

debug_bounded : (rows : List Row) → IfSome (debug_of rows) IsWithinBounds
debug_bounded rows = names (first_of (codes "image") rows) (first_of (codes "ports") rows) (first_of (codes "script") rows)
  where
    names : (a b c : Option Text) → IfSome (option_and_then (λ i. option_and_then (λ p. option_map (ToDebug i p) c) b) a) IsWithinBounds
    names None b c = tt
    names (Some a) None c = tt
    names (Some a) (Some b) None = tt
    names (Some a) (Some b) (Some c) = tt

gen_bounded : (rows : List Row) → IfSome (gen_of rows) IsWithinBounds
gen_bounded rows = go (number_of (codes "number") greatest_program rows) refl
  where
    go : (o : Option ℕ) → number_of (codes "number") greatest_program rows ≡ o → IfSome (option_map ToGenerate o) IsWithinBounds
    go None e = tt
    go (Some n) e = given_bounded (codes "number") greatest_program rows n e

layout_bounded : (rows : List Row) → IfSome (layout_of rows) IsWithinBounds
layout_bounded rows = parts (first_of (codes "sequence") rows) (number_of (codes "registers") greatest_registers rows) (number_of (codes "budget") greatest_budget rows) refl refl
  where
    parts : (s : Option Text) (m n : Option ℕ) → number_of (codes "registers") greatest_registers rows ≡ m → number_of (codes "budget") greatest_budget rows ≡ n
        → IfSome (option_and_then (λ sequence. option_and_then (λ registers. option_map (ToLayOut sequence registers) n) m) s) IsWithinBounds
    parts None m n e f = tt
    parts (Some s) None n e f = tt
    parts (Some s) (Some m) None e f = tt
    parts (Some s) (Some m) (Some n) e f =
        let first = given_bounded (codes "registers") greatest_registers rows m e in
        let second = given_bounded (codes "budget") greatest_budget rows n f in
        (first.0, first.1, second.0, second.1)

join_bounded : (rows : List Row) → IfSome (join_of rows) IsWithinBounds
join_bounded rows = parts (first_of (codes "output") rows) (all_of (codes "sources") rows)
  where
    counted : (output : Text) (sources : List Text) (b : Bool) → (nat_le 1 (length sources) && nat_le (length sources) most_sources) ≡ b
        → IfSome (option_map (ToJoin output) (cond b (Some sources) None)) IsWithinBounds
    counted output sources false e = tt
    counted output sources true e =
        let both = and_parts _ _ e in
        (leb-true 1 (length sources) both.0, leb-true (length sources) most_sources both.1)

    parts : (o : Option Text) (s : Option (List Text)) → IfSome (option_and_then (λ output. option_map (ToJoin output) (option_and_then (up_to most_sources) s)) o) IsWithinBounds
    parts None s = tt
    parts (Some output) None = tt
    parts (Some output) (Some sources) = counted output sources (nat_le 1 (length sources) && nat_le (length sources) most_sources) refl

pbuild_bounded : (rows : List Row) → IfSome (pbuild_of rows) IsWithinBounds
pbuild_bounded rows = names (first_of (codes "source") rows) (first_of (codes "first") rows) (first_of (codes "ports") rows) (first_of (codes "image") rows)
  where
    numbers : (s f p i : Text) (m n d : Option ℕ) → number_of (codes "registers") greatest_registers rows ≡ m → number_of (codes "budget") greatest_budget rows ≡ n → number_of (codes "steps") greatest_steps rows ≡ d
        → IfSome (option_and_then (λ registers. option_and_then (λ budget. option_map (ToPbuild s f p i registers budget) d) n) m) IsWithinBounds
    numbers s f p i None n d eq_m eq_n eq_d = tt
    numbers s f p i (Some m) None d eq_m eq_n eq_d = tt
    numbers s f p i (Some m) (Some n) None eq_m eq_n eq_d = tt
    numbers s f p i (Some m) (Some n) (Some d) eq_m eq_n eq_d =
        let registers = given_bounded (codes "registers") greatest_registers rows m eq_m in
        let budget = given_bounded (codes "budget") greatest_budget rows n eq_n in
        let steps = given_bounded (codes "steps") greatest_steps rows d eq_d in
        (registers.0, registers.1, budget.0, budget.1, steps.0, steps.1)

    names : (s f p i : Option Text) → IfSome (pbuild_by s f p i (number_of (codes "registers") greatest_registers rows) (number_of (codes "budget") greatest_budget rows) (number_of (codes "steps") greatest_steps rows)) IsWithinBounds
    names None f p i = tt
    names (Some s) None p i = tt
    names (Some s) (Some f) None i = tt
    names (Some s) (Some f) (Some p) None = tt
    names (Some s) (Some f) (Some p) (Some i) = numbers s f p i _ _ _ refl refl refl

-- what holds of what is asked for, where the words are taken
taken_only : (t : Bool) (o : Option Asked) → IfSome o IsWithinBounds → IfSome (cond t o None) IsWithinBounds
taken_only true o h = h
taken_only false o h = tt

rows_bounded : (n : Name) (rows : List Row) → IfSome (rows_ask n rows) IsWithinBounds
rows_bounded name.Build = build_bounded
rows_bounded name.Run = numbered_bounded _ _ _ greatest_steps ToRun (λ a b n h. h)
rows_bounded name.Means = numbered_bounded _ _ _ greatest_turns ToEvaluate (λ a b n h. h)
rows_bounded name.Exec = numbered_bounded _ _ _ greatest_steps ToExecute (λ a b n h. h)
rows_bounded name.Layout = layout_bounded
rows_bounded name.Check = both_bounded _ _ ToCheck (λ a b. tt)
rows_bounded name.Asm = both_bounded _ _ ToAssemble (λ a b. tt)
rows_bounded name.Dis = dis_bounded
rows_bounded name.Gen = gen_bounded
rows_bounded name.Debug = debug_bounded
rows_bounded name.Pre = both_bounded _ _ ToExpand (λ a b. tt)
rows_bounded name.Join = join_bounded
rows_bounded name.Pbuild = pbuild_bounded

pub within_asked : AsksWithin
unfolding asked_to
within_asked [] = tt
within_asked (word ∷ rest) = go (name_of word)
  where
    words : List Text
    words = word ∷ rest

    go : (o : Option Name) → IfSome (option_and_then (λ n. asked_to (app_of_name n) (rows_ask n) words) o) IsWithinBounds
    go None = tt
    go (Some n) = taken_only (is_taken (app_of_name n) words) (rows_ask n (matches_of (app_of_name n) words)) (rows_bounded n (matches_of (app_of_name n) words))
