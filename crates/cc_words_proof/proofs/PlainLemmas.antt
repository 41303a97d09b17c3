-- What `clap` makes of words that are no options.
use Rattle.std.proofs.Common.{◌≡◌, ◌∙◌, ℕ, Bool, true, false, refl, sym, ap, List, [], ◌∷◌, Some, None, codes, true≢false, cond}
use Rattle.std.specs.Prelude.{◌==◌, option_and_then, ◌++◌}
use Rattle.std.specs.Str.{bytes_eq}
use Rattle.std.specs.Str.Parse.{digits_value, without_leading_plus}
use Rattle.clap.specs.Lexer.{long_of, short_of}
use Rattle.clap.specs.Words.{App, Kinds, Row, Text, fault_of, first_of, matches_of, one_of, reading_of}
use Rattle.clap.specs.ValueTests.{accepts}
use Rattle.clap.specs.declared.builder.value_parser.ValueParser.{ValueParser}
use Rattle.clap.specs.declared.builder.value_parser.ValueParser.TheVariants as parser
use Rattle.clap.specs.declared.builder.value_parser.Reading.TheVariants as reading
use Rattle.clap.specs.Kinds.{or_else, value_kinds}
use Rattle.clap.specs.Walk.{is_empty}
use Rattle.clap.proofs.OnLiterals.{clap_on_literals}
use Rattle.cc_words.specs.Asked.{Asked, ToBuild, ToCheck, ToRun, ToEvaluate, ToExecute, asked, asked_to, asked_to_build, asked_to_check, build_of, check_of, exec_of, is_number_to, is_plain_word, is_taken, means_of, number_to, numbered_of, run_of}
use Rattle.cc_words.specs.Commands.{build_app, check_app, exec_app, greatest_steps, greatest_turns, means_app, numbered_app, run_app, steps_rule, turns_rule}
use Rattle.cc_words_proof.specs.Plain.{AsksFor, BuildsNoOtherNames, ChecksNoOtherNames, ExecutesWithSteps, ExecutesWithStepsAttached, ExecutesWithStepsFirst, MeansWithTurns, MeansWithTurnsAttached, MeansWithTurnsFirst, RunsWithSteps, RunsWithStepsAttached, RunsWithStepsFirst}

-- the word is no `--`, no `--name` and no `-n`
abbrev pub IsNoFlag : Text → Type 0
IsNoFlag word = (bytes_eq word (45 ∷ 45 ∷ []) ≡ false) × (long_of word ≡ None) × (short_of word ≡ None)

pub no_flag : (word : Text) → is_plain_word word ≡ true → IsNoFlag word
no_flag [] plain = (refl, refl, refl)
no_flag (x ∷ []) plain = go (x == 45) refl
  where
    go : (b : Bool) → (x == 45) ≡ b → IsNoFlag (x ∷ [])
    go true e = (rw e refl, rw e refl, rw e refl)
    go false e = (rw e refl, rw e refl, rw e refl)
no_flag (x ∷ y ∷ rest) plain = go (x == 45) refl
  where
    go : (b : Bool) → (x == 45) ≡ b → IsNoFlag (x ∷ y ∷ rest)
    go true e = let bad : false ≡ true = rw e at plain in absurd (true≢false (sym bad))
    go false e = (rw e refl, rw e refl, rw e refl)

-- `build` of two names
taken : (name a b : Text) → IsNoFlag a → IsNoFlag b → is_taken build_app (name ∷ a ∷ b ∷ []) ≡ true
unfolding clap_on_literals
taken name a b fa fb = rw (fa.0, fa.1, fa.2, fb.0, fb.1, fb.2) refl

names : (name a b : Text) → IsNoFlag a → IsNoFlag b → build_of (matches_of build_app (name ∷ a ∷ b ∷ [])) ≡ Some (ToBuild a b 1 200000 1)
unfolding clap_on_literals
names name a b fa fb = rw (fa.0, fa.1, fa.2, fb.0, fb.1, fb.2) refl

pub two_names : (a b : Text) → is_plain_word a ≡ true → is_plain_word b ≡ true → asked (codes "build" ∷ a ∷ b ∷ []) ≡ Some (ToBuild a b 1 200000 1)
unfolding asked_to
two_names a b pa pb = rw (taken (codes "build") a b (no_flag a pa) (no_flag b pb)) (names (codes "build") a b (no_flag a pa) (no_flag b pb))

-- `build` of fewer, and of more
not_taken : (words : List Text) → is_taken build_app words ≡ false → asked_to_build words ≡ None
unfolding asked_to
not_taken words e = ap (λ b. cond b (build_of (matches_of build_app words)) None) e

no_names : is_taken build_app (codes "build" ∷ []) ≡ false
unfolding clap_on_literals
no_names = refl

one_name : (a : Text) → IsNoFlag a → is_taken build_app (codes "build" ∷ a ∷ []) ≡ false
unfolding clap_on_literals
one_name a fa = rw (fa.0, fa.1, fa.2) refl

more_names : (a b c : Text) (rest : List Text) → IsNoFlag a → IsNoFlag b → IsNoFlag c → is_taken build_app (codes "build" ∷ a ∷ b ∷ c ∷ rest) ≡ false
unfolding clap_on_literals
more_names a b c rest fa fb fc = rw (fa.0, fa.1, fa.2, fb.0, fb.1, fb.2, fc.0, fc.1, fc.2) refl

pub other_names : BuildsNoOtherNames
other_names = (
  not_taken (codes "build" ∷ []) no_names,
  λ a pa. not_taken (codes "build" ∷ a ∷ []) (one_name a (no_flag a pa)),
  λ a b pa pb c rest pc. not_taken (codes "build" ∷ a ∷ b ∷ c ∷ rest) (more_names a b c rest (no_flag a pa) (no_flag b pb) (no_flag c pc)),
)

-- `check` of two names, of fewer, and of more
checked : (a b : Text) → IsNoFlag a → IsNoFlag b → is_taken check_app (codes "check" ∷ a ∷ b ∷ []) ≡ true
unfolding clap_on_literals
checked a b fa fb = rw (fa.0, fa.1, fa.2, fb.0, fb.1, fb.2) refl

checked_names : (a b : Text) → IsNoFlag a → IsNoFlag b → check_of (matches_of check_app (codes "check" ∷ a ∷ b ∷ [])) ≡ Some (ToCheck a b)
unfolding clap_on_literals
checked_names a b fa fb = rw (fa.0, fa.1, fa.2, fb.0, fb.1, fb.2) refl

pub check_two_names : (a b : Text) → is_plain_word a ≡ true → is_plain_word b ≡ true → asked (codes "check" ∷ a ∷ b ∷ []) ≡ Some (ToCheck a b)
unfolding asked_to
check_two_names a b pa pb = rw (checked a b (no_flag a pa) (no_flag b pb)) (checked_names a b (no_flag a pa) (no_flag b pb))

not_checked : (words : List Text) → is_taken check_app words ≡ false → asked_to_check words ≡ None
unfolding asked_to
not_checked words e = ap (λ b. cond b (check_of (matches_of check_app words)) None) e

no_names_checked : is_taken check_app (codes "check" ∷ []) ≡ false
unfolding clap_on_literals
no_names_checked = refl

one_name_checked : (a : Text) → IsNoFlag a → is_taken check_app (codes "check" ∷ a ∷ []) ≡ false
unfolding clap_on_literals
one_name_checked a fa = rw (fa.0, fa.1, fa.2) refl

more_names_checked : (a b c : Text) (rest : List Text) → IsNoFlag a → IsNoFlag b → IsNoFlag c → is_taken check_app (codes "check" ∷ a ∷ b ∷ c ∷ rest) ≡ false
unfolding clap_on_literals
more_names_checked a b c rest fa fb fc = rw (fa.0, fa.1, fa.2, fb.0, fb.1, fb.2, fc.0, fc.1, fc.2) refl

pub check_other_names : ChecksNoOtherNames
check_other_names = (
  not_checked (codes "check" ∷ []) no_names_checked,
  λ a pa. not_checked (codes "check" ∷ a ∷ []) (one_name_checked a (no_flag a pa)),
  λ a b pa pb c rest pc. not_checked (codes "check" ∷ a ∷ b ∷ c ∷ rest) (more_names_checked a b c rest (no_flag a pa) (no_flag b pb) (no_flag c pc)),
)

pub number_in : (greatest : ℕ) (m : Text) → is_number_to greatest m ≡ true → number_to greatest m ≡ Some (digits_value 10 (without_leading_plus m))
number_in greatest m e = ap (λ b. cond b (Some (digits_value 10 (without_leading_plus m))) None) e

-- `run`, `exec` and `means` of two names
run_taken : (name a b : Text) → IsNoFlag a → IsNoFlag b → is_taken run_app (name ∷ a ∷ b ∷ []) ≡ true
unfolding clap_on_literals
run_taken name a b fa fb = rw (fa.0, fa.1, fa.2, fb.0, fb.1, fb.2) refl

run_names : (name a b : Text) → IsNoFlag a → IsNoFlag b → run_of (matches_of run_app (name ∷ a ∷ b ∷ [])) ≡ Some (ToRun a b 1000000)
unfolding clap_on_literals
run_names name a b fa fb = rw (fa.0, fa.1, fa.2, fb.0, fb.1, fb.2) refl

pub run_two_names : (a b : Text) → is_plain_word a ≡ true → is_plain_word b ≡ true → asked (codes "run" ∷ a ∷ b ∷ []) ≡ Some (ToRun a b 1000000)
unfolding asked_to
run_two_names a b pa pb = rw (run_taken (codes "run") a b (no_flag a pa) (no_flag b pb)) (run_names (codes "run") a b (no_flag a pa) (no_flag b pb))

exec_taken : (name a b : Text) → IsNoFlag a → IsNoFlag b → is_taken exec_app (name ∷ a ∷ b ∷ []) ≡ true
unfolding clap_on_literals
exec_taken name a b fa fb = rw (fa.0, fa.1, fa.2, fb.0, fb.1, fb.2) refl

exec_names : (name a b : Text) → IsNoFlag a → IsNoFlag b → exec_of (matches_of exec_app (name ∷ a ∷ b ∷ [])) ≡ Some (ToExecute a b 1000000)
unfolding clap_on_literals
exec_names name a b fa fb = rw (fa.0, fa.1, fa.2, fb.0, fb.1, fb.2) refl

pub exec_two_names : (a b : Text) → is_plain_word a ≡ true → is_plain_word b ≡ true → asked (codes "exec" ∷ a ∷ b ∷ []) ≡ Some (ToExecute a b 1000000)
unfolding asked_to
exec_two_names a b pa pb = rw (exec_taken (codes "exec") a b (no_flag a pa) (no_flag b pb)) (exec_names (codes "exec") a b (no_flag a pa) (no_flag b pb))

means_taken : (name a b : Text) → IsNoFlag a → IsNoFlag b → is_taken means_app (name ∷ a ∷ b ∷ []) ≡ true
unfolding clap_on_literals
means_taken name a b fa fb = rw (fa.0, fa.1, fa.2, fb.0, fb.1, fb.2) refl

means_names : (name a b : Text) → IsNoFlag a → IsNoFlag b → means_of (matches_of means_app (name ∷ a ∷ b ∷ [])) ≡ Some (ToEvaluate a b 10000)
unfolding clap_on_literals
means_names name a b fa fb = rw (fa.0, fa.1, fa.2, fb.0, fb.1, fb.2) refl

pub means_two_names : (a b : Text) → is_plain_word a ≡ true → is_plain_word b ≡ true → asked (codes "means" ∷ a ∷ b ∷ []) ≡ Some (ToEvaluate a b 10000)
unfolding asked_to
means_two_names a b pa pb = rw (means_taken (codes "means") a b (no_flag a pa) (no_flag b pb)) (means_names (codes "means") a b (no_flag a pa) (no_flag b pb))

-- a number in the words of a command
pub or_nothing : (kinds : Kinds) → or_else kinds [] ≡ kinds
or_nothing [] = refl
or_nothing (k ∷ ks) = refl

-- the kinds of fault of a text that the parser of the number refuses, as they come up through the walk
abbrev pub number_fault : ValueParser → Text → Kinds
number_fault p m = or_else (value_kinds false p m) []

pub number_fault_by : (p : ValueParser) (m : Text) (t : Bool) → accepts false p m ≡ t → is_empty (number_fault p m) ≡ t
number_fault_by p m true e = rw e refl
number_fault_by p m false e = rw e refl

-- what stands in the rows
abbrev Holds : Text → Text → Text → Text → Text → Text → List Row → Type 0
Holds first second number a b m rows = (first_of first rows ≡ Some a) × (first_of second rows ≡ Some b) × (one_of number rows ≡ Some m)

-- what a number takes, where the words have it: `app` is the command with any parser of the number
record HasNumber (app : ValueParser → App) (first second number : Text) (words : List Text) (a b m : Text) : Type 0 where
  fault : (p : ValueParser) → fault_of (app p) words ≡ number_fault p m
  rows : (p : ValueParser) → reading_of p ≡ reading.AsWritten → Holds first second number a b m (matches_of (app p) words)

module _ (app : ValueParser → App) (first second number : Text) (greatest : ℕ) (what : Text → Text → ℕ → Asked) where
  number_read : (a b m : Text) (n : ℕ) (rows : List Row) → Holds first second number a b m rows → number_to greatest m ≡ Some n → numbered_of first second number greatest what rows ≡ Some (what a b n)
  number_read a b m n rows h e =
      let is : option_and_then (number_to greatest) (one_of number rows) ≡ Some n = ap (option_and_then (number_to greatest)) h.2 ∙ e in
      rw (h.0, h.1, is) refl

  number_asked : (words : List Text) (a b m : Text) → HasNumber app first second number words a b m
      → asked words ≡ asked_to (app (parser.Unsigned 1 greatest)) (numbered_of first second number greatest what) words → AsksFor greatest (what a b) m words
  unfolding asked_to
  number_asked words a b m h chosen = (yes, no)
    where
      parses : ValueParser
      parses = parser.Unsigned 1 greatest

      by : (t : Bool) → is_number_to greatest m ≡ t → asked words ≡ cond t (numbered_of first second number greatest what (matches_of (app parses) words)) None
      by t e = chosen ∙ ap (λ u. cond u (numbered_of first second number greatest what (matches_of (app parses) words)) None) (ap is_empty (h.fault parses) ∙ number_fault_by parses m t e)

      yes : is_number_to greatest m ≡ true → asked words ≡ Some (what a b (digits_value 10 (without_leading_plus m)))
      yes e = by true e ∙ number_read a b m _ (matches_of (app parses) words) (h.rows parses refl) (number_in greatest m e)

      no : is_number_to greatest m ≡ false → asked words ≡ None
      no e = by false e

-- `run` with any parser of its steps
abbrev run_with : ValueParser → App
run_with p = numbered_app (codes "run") (codes "image") (codes "ports") (record steps_rule { parser = Some p })

module _ (a b m : Text) (fa : IsNoFlag a) (fb : IsNoFlag b) (p : ValueParser) where
  run_behind_fault : IsNoFlag m → fault_of (run_with p) (codes "run" ∷ a ∷ b ∷ codes "--steps" ∷ m ∷ []) ≡ or_else (number_fault p m) []
  unfolding clap_on_literals
  run_behind_fault fm = rw (fa.0, fa.1, fa.2, fb.0, fb.1, fb.2, fm.0, fm.1, fm.2) refl

  run_behind_rows : IsNoFlag m → reading_of p ≡ reading.AsWritten → Holds (codes "image") (codes "ports") (codes "steps") a b m (matches_of (run_with p) (codes "run" ∷ a ∷ b ∷ codes "--steps" ∷ m ∷ []))
  unfolding clap_on_literals
  run_behind_rows fm how = (
    rw (fa.0, fa.1, fa.2, fb.0, fb.1, fb.2, fm.0, fm.1, fm.2) refl,
    rw (fa.0, fa.1, fa.2, fb.0, fb.1, fb.2, fm.0, fm.1, fm.2) refl,
    rw (fa.0, fa.1, fa.2, fb.0, fb.1, fb.2, fm.0, fm.1, fm.2, how) refl,
  )

  run_first_fault : IsNoFlag m → fault_of (run_with p) (codes "run" ∷ codes "--steps" ∷ m ∷ a ∷ b ∷ []) ≡ or_else (or_else (number_fault p m) []) []
  unfolding clap_on_literals
  run_first_fault fm = rw (fm.0, fm.1, fm.2, fa.0, fa.1, fa.2, fb.0, fb.1, fb.2) refl

  run_first_rows : IsNoFlag m → reading_of p ≡ reading.AsWritten → Holds (codes "image") (codes "ports") (codes "steps") a b m (matches_of (run_with p) (codes "run" ∷ codes "--steps" ∷ m ∷ a ∷ b ∷ []))
  unfolding clap_on_literals
  run_first_rows fm how = (
    rw (fm.0, fm.1, fm.2, fa.0, fa.1, fa.2, fb.0, fb.1, fb.2) refl,
    rw (fm.0, fm.1, fm.2, fa.0, fa.1, fa.2, fb.0, fb.1, fb.2) refl,
    rw (fm.0, fm.1, fm.2, fa.0, fa.1, fa.2, fb.0, fb.1, fb.2, how) refl,
  )

  run_attached_fault : fault_of (run_with p) (codes "run" ∷ a ∷ b ∷ (codes "--steps=" ++ m) ∷ []) ≡ or_else (or_else (or_else (number_fault p m) []) []) []
  unfolding clap_on_literals
  run_attached_fault = rw (fa.0, fa.1, fa.2, fb.0, fb.1, fb.2) refl

  run_attached_rows : reading_of p ≡ reading.AsWritten → Holds (codes "image") (codes "ports") (codes "steps") a b m (matches_of (run_with p) (codes "run" ∷ a ∷ b ∷ (codes "--steps=" ++ m) ∷ []))
  unfolding clap_on_literals
  run_attached_rows how =
      (rw (fa.0, fa.1, fa.2, fb.0, fb.1, fb.2) refl, rw (fa.0, fa.1, fa.2, fb.0, fb.1, fb.2) refl, rw (fa.0, fa.1, fa.2, fb.0, fb.1, fb.2, how) refl)

-- `run` with a number of steps, behind the names, before them and attached
pub steps_behind : RunsWithSteps
steps_behind a b pa pb m pm =
    let fm = no_flag m pm in
    number_asked run_with (codes "image") (codes "ports") (codes "steps") greatest_steps ToRun (codes "run" ∷ a ∷ b ∷ codes "--steps" ∷ m ∷ []) a b m (record {
      fault = λ p. run_behind_fault a b m (no_flag a pa) (no_flag b pb) p fm ∙ or_nothing (number_fault p m);
      rows = λ p how. run_behind_rows a b m (no_flag a pa) (no_flag b pb) p fm how;
    }) refl

pub steps_first : RunsWithStepsFirst
steps_first a b pa pb m pm =
    let fm = no_flag m pm in
    number_asked run_with (codes "image") (codes "ports") (codes "steps") greatest_steps ToRun (codes "run" ∷ codes "--steps" ∷ m ∷ a ∷ b ∷ []) a b m (record {
      fault = λ p. run_first_fault a b m (no_flag a pa) (no_flag b pb) p fm ∙ or_nothing (or_else (number_fault p m) []) ∙ or_nothing (number_fault p m);
      rows = λ p how. run_first_rows a b m (no_flag a pa) (no_flag b pb) p fm how;
    }) refl

pub steps_attached : RunsWithStepsAttached
steps_attached a b pa pb m =
    number_asked run_with (codes "image") (codes "ports") (codes "steps") greatest_steps ToRun (codes "run" ∷ a ∷ b ∷ (codes "--steps=" ++ m) ∷ []) a b m (record {
      fault = λ p. run_attached_fault a b m (no_flag a pa) (no_flag b pb) p ∙ or_nothing (or_else (or_else (number_fault p m) []) [])
          ∙ or_nothing (or_else (number_fault p m) []) ∙ or_nothing (number_fault p m);
      rows = λ p how. run_attached_rows a b m (no_flag a pa) (no_flag b pb) p how;
    }) refl

-- `exec` with any parser of its steps
abbrev exec_with : ValueParser → App
exec_with p = numbered_app (codes "exec") (codes "source") (codes "ports") (record steps_rule { parser = Some p })

module _ (a b m : Text) (fa : IsNoFlag a) (fb : IsNoFlag b) (p : ValueParser) where
  exec_behind_fault : IsNoFlag m → fault_of (exec_with p) (codes "exec" ∷ a ∷ b ∷ codes "--steps" ∷ m ∷ []) ≡ or_else (number_fault p m) []
  unfolding clap_on_literals
  exec_behind_fault fm = rw (fa.0, fa.1, fa.2, fb.0, fb.1, fb.2, fm.0, fm.1, fm.2) refl

  exec_behind_rows : IsNoFlag m → reading_of p ≡ reading.AsWritten → Holds (codes "source") (codes "ports") (codes "steps") a b m (matches_of (exec_with p) (codes "exec" ∷ a ∷ b ∷ codes "--steps" ∷ m ∷ []))
  unfolding clap_on_literals
  exec_behind_rows fm how = (
    rw (fa.0, fa.1, fa.2, fb.0, fb.1, fb.2, fm.0, fm.1, fm.2) refl,
    rw (fa.0, fa.1, fa.2, fb.0, fb.1, fb.2, fm.0, fm.1, fm.2) refl,
    rw (fa.0, fa.1, fa.2, fb.0, fb.1, fb.2, fm.0, fm.1, fm.2, how) refl,
  )

  exec_first_fault : IsNoFlag m → fault_of (exec_with p) (codes "exec" ∷ codes "--steps" ∷ m ∷ a ∷ b ∷ []) ≡ or_else (or_else (number_fault p m) []) []
  unfolding clap_on_literals
  exec_first_fault fm = rw (fm.0, fm.1, fm.2, fa.0, fa.1, fa.2, fb.0, fb.1, fb.2) refl

  exec_first_rows : IsNoFlag m → reading_of p ≡ reading.AsWritten → Holds (codes "source") (codes "ports") (codes "steps") a b m (matches_of (exec_with p) (codes "exec" ∷ codes "--steps" ∷ m ∷ a ∷ b ∷ []))
  unfolding clap_on_literals
  exec_first_rows fm how = (
    rw (fm.0, fm.1, fm.2, fa.0, fa.1, fa.2, fb.0, fb.1, fb.2) refl,
    rw (fm.0, fm.1, fm.2, fa.0, fa.1, fa.2, fb.0, fb.1, fb.2) refl,
    rw (fm.0, fm.1, fm.2, fa.0, fa.1, fa.2, fb.0, fb.1, fb.2, how) refl,
  )

  exec_attached_fault : fault_of (exec_with p) (codes "exec" ∷ a ∷ b ∷ (codes "--steps=" ++ m) ∷ []) ≡ or_else (or_else (or_else (number_fault p m) []) []) []
  unfolding clap_on_literals
  exec_attached_fault = rw (fa.0, fa.1, fa.2, fb.0, fb.1, fb.2) refl

  exec_attached_rows : reading_of p ≡ reading.AsWritten → Holds (codes "source") (codes "ports") (codes "steps") a b m (matches_of (exec_with p) (codes "exec" ∷ a ∷ b ∷ (codes "--steps=" ++ m) ∷ []))
  unfolding clap_on_literals
  exec_attached_rows how =
      (rw (fa.0, fa.1, fa.2, fb.0, fb.1, fb.2) refl, rw (fa.0, fa.1, fa.2, fb.0, fb.1, fb.2) refl, rw (fa.0, fa.1, fa.2, fb.0, fb.1, fb.2, how) refl)

-- `exec` with a number of steps, behind the names, before them and attached
pub exec_steps_behind : ExecutesWithSteps
exec_steps_behind a b pa pb m pm =
    let fm = no_flag m pm in
    number_asked exec_with (codes "source") (codes "ports") (codes "steps") greatest_steps ToExecute (codes "exec" ∷ a ∷ b ∷ codes "--steps" ∷ m ∷ []) a b m (record {
      fault = λ p. exec_behind_fault a b m (no_flag a pa) (no_flag b pb) p fm ∙ or_nothing (number_fault p m);
      rows = λ p how. exec_behind_rows a b m (no_flag a pa) (no_flag b pb) p fm how;
    }) refl

pub exec_steps_first : ExecutesWithStepsFirst
exec_steps_first a b pa pb m pm =
    let fm = no_flag m pm in
    number_asked exec_with (codes "source") (codes "ports") (codes "steps") greatest_steps ToExecute (codes "exec" ∷ codes "--steps" ∷ m ∷ a ∷ b ∷ []) a b m (record {
      fault = λ p. exec_first_fault a b m (no_flag a pa) (no_flag b pb) p fm ∙ or_nothing (or_else (number_fault p m) []) ∙ or_nothing (number_fault p m);
      rows = λ p how. exec_first_rows a b m (no_flag a pa) (no_flag b pb) p fm how;
    }) refl

pub exec_steps_attached : ExecutesWithStepsAttached
exec_steps_attached a b pa pb m =
    number_asked exec_with (codes "source") (codes "ports") (codes "steps") greatest_steps ToExecute (codes "exec" ∷ a ∷ b ∷ (codes "--steps=" ++ m) ∷ []) a b m (record {
      fault = λ p. exec_attached_fault a b m (no_flag a pa) (no_flag b pb) p ∙ or_nothing (or_else (or_else (number_fault p m) []) [])
          ∙ or_nothing (or_else (number_fault p m) []) ∙ or_nothing (number_fault p m);
      rows = λ p how. exec_attached_rows a b m (no_flag a pa) (no_flag b pb) p how;
    }) refl

-- `means` with any parser of its turns
abbrev means_with : ValueParser → App
means_with p = numbered_app (codes "means") (codes "source") (codes "ports") (record turns_rule { parser = Some p })

module _ (a b m : Text) (fa : IsNoFlag a) (fb : IsNoFlag b) (p : ValueParser) where
  means_behind_fault : IsNoFlag m → fault_of (means_with p) (codes "means" ∷ a ∷ b ∷ codes "--turns" ∷ m ∷ []) ≡ or_else (number_fault p m) []
  unfolding clap_on_literals
  means_behind_fault fm = rw (fa.0, fa.1, fa.2, fb.0, fb.1, fb.2, fm.0, fm.1, fm.2) refl

  means_behind_rows : IsNoFlag m → reading_of p ≡ reading.AsWritten → Holds (codes "source") (codes "ports") (codes "turns") a b m (matches_of (means_with p) (codes "means" ∷ a ∷ b ∷ codes "--turns" ∷ m ∷ []))
  unfolding clap_on_literals
  means_behind_rows fm how = (
    rw (fa.0, fa.1, fa.2, fb.0, fb.1, fb.2, fm.0, fm.1, fm.2) refl,
    rw (fa.0, fa.1, fa.2, fb.0, fb.1, fb.2, fm.0, fm.1, fm.2) refl,
    rw (fa.0, fa.1, fa.2, fb.0, fb.1, fb.2, fm.0, fm.1, fm.2, how) refl,
  )

  means_first_fault : IsNoFlag m → fault_of (means_with p) (codes "means" ∷ codes "--turns" ∷ m ∷ a ∷ b ∷ []) ≡ or_else (or_else (number_fault p m) []) []
  unfolding clap_on_literals
  means_first_fault fm = rw (fm.0, fm.1, fm.2, fa.0, fa.1, fa.2, fb.0, fb.1, fb.2) refl

  means_first_rows : IsNoFlag m → reading_of p ≡ reading.AsWritten → Holds (codes "source") (codes "ports") (codes "turns") a b m (matches_of (means_with p) (codes "means" ∷ codes "--turns" ∷ m ∷ a ∷ b ∷ []))
  unfolding clap_on_literals
  means_first_rows fm how = (
    rw (fm.0, fm.1, fm.2, fa.0, fa.1, fa.2, fb.0, fb.1, fb.2) refl,
    rw (fm.0, fm.1, fm.2, fa.0, fa.1, fa.2, fb.0, fb.1, fb.2) refl,
    rw (fm.0, fm.1, fm.2, fa.0, fa.1, fa.2, fb.0, fb.1, fb.2, how) refl,
  )

  means_attached_fault : fault_of (means_with p) (codes "means" ∷ a ∷ b ∷ (codes "--turns=" ++ m) ∷ []) ≡ or_else (or_else (or_else (number_fault p m) []) []) []
  unfolding clap_on_literals
  means_attached_fault = rw (fa.0, fa.1, fa.2, fb.0, fb.1, fb.2) refl

  means_attached_rows : reading_of p ≡ reading.AsWritten → Holds (codes "source") (codes "ports") (codes "turns") a b m (matches_of (means_with p) (codes "means" ∷ a ∷ b ∷ (codes "--turns=" ++ m) ∷ []))
  unfolding clap_on_literals
  means_attached_rows how =
      (rw (fa.0, fa.1, fa.2, fb.0, fb.1, fb.2) refl, rw (fa.0, fa.1, fa.2, fb.0, fb.1, fb.2) refl, rw (fa.0, fa.1, fa.2, fb.0, fb.1, fb.2, how) refl)

-- `means` with a number of turns, behind the names, before them and attached
pub turns_behind : MeansWithTurns
turns_behind a b pa pb m pm =
    let fm = no_flag m pm in
    number_asked means_with (codes "source") (codes "ports") (codes "turns") greatest_turns ToEvaluate (codes "means" ∷ a ∷ b ∷ codes "--turns" ∷ m ∷ []) a b m (record {
      fault = λ p. means_behind_fault a b m (no_flag a pa) (no_flag b pb) p fm ∙ or_nothing (number_fault p m);
      rows = λ p how. means_behind_rows a b m (no_flag a pa) (no_flag b pb) p fm how;
    }) refl

pub turns_first : MeansWithTurnsFirst
turns_first a b pa pb m pm =
    let fm = no_flag m pm in
    number_asked means_with (codes "source") (codes "ports") (codes "turns") greatest_turns ToEvaluate (codes "means" ∷ codes "--turns" ∷ m ∷ a ∷ b ∷ []) a b m (record {
      fault = λ p. means_first_fault a b m (no_flag a pa) (no_flag b pb) p fm ∙ or_nothing (or_else (number_fault p m) []) ∙ or_nothing (number_fault p m);
      rows = λ p how. means_first_rows a b m (no_flag a pa) (no_flag b pb) p fm how;
    }) refl

pub turns_attached : MeansWithTurnsAttached
turns_attached a b pa pb m =
    number_asked means_with (codes "source") (codes "ports") (codes "turns") greatest_turns ToEvaluate (codes "means" ∷ a ∷ b ∷ (codes "--turns=" ++ m) ∷ []) a b m (record {
      fault = λ p. means_attached_fault a b m (no_flag a pa) (no_flag b pb) p ∙ or_nothing (or_else (or_else (number_fault p m) []) [])
          ∙ or_nothing (or_else (number_fault p m) []) ∙ or_nothing (number_fault p m);
      rows = λ p how. means_attached_rows a b m (no_flag a pa) (no_flag b pb) p how;
    }) refl
