-- What the words of a command line ask for, by what `clap` makes of them.
use Rattle.std.specs.Prelude.{◌≡◌, ◌==◌, ℕ, Bool, true, not, List, [], ◌∷◌}
use Rattle.std.specs.Prelude.{Option, Some, None, codes, if◌then◌else◌}
use Rattle.std.specs.Prelude.{option_map, option_and_then}
use Rattle.std.specs.Str.{bytes_eq}
use Rattle.clap.specs.Words.{App, Row, Text, first_of, matches_of}
pub use Rattle.cc_options.specs.Options.{is_number_to, is_taken, names_of, names_under, number_of, number_to, texts_of}
use Rattle.cc_words.specs.Commands.{asm_app, build_app, check_app, debug_app, dis_app, exec_app, gen_app}
use Rattle.cc_words.specs.Commands.{join_app, layout_app, means_app, pbuild_app, pre_app, run_app}
use Rattle.cc_words.specs.Commands.{greatest_budget, greatest_program, greatest_registers, greatest_step}
use Rattle.cc_words.specs.Commands.{greatest_steps, greatest_turns, most_sources}
use Rattle.cc_words.specs.declared.name.Name.{Name}
use Rattle.cc_words.specs.declared.name.Name.TheVariants as name
use Rattle.cc_words.specs.declared.asked.Request.{Request}
use Rattle.cc_words.specs.declared.asked.Request.TheVariants as request

-- what is asked for: to build an image of a source, with layouts for so many registers, each searched
-- within so large a budget, at such a step, to run an image on ports for at most so many steps, to
-- evaluate a source on ports with at most so many turns, to compile a source and run it so, to search a
-- layout of a sequence for so many registers within so large a budget, to check an image by a
-- certificate, to assemble a text to an image, to list an image, to make a program from a number and
-- run it, to follow a script over an image on ports, to expand a source, to join sources, or to build an
-- image of a source with layouts, for so many registers, each searched within so large a budget, for the
-- run of a first image on ports for at most so many steps
pub data Asked : Type 0 where
  ToBuild : Text → Text → ℕ → ℕ → ℕ → Asked
  ToRun : Text → Text → ℕ → Asked
  ToEvaluate : Text → Text → ℕ → Asked
  ToExecute : Text → Text → ℕ → Asked
  ToLayOut : Text → ℕ → ℕ → Asked
  ToCheck : Text → Text → Asked
  ToAssemble : Text → Text → Asked
  ToList : Text → Asked
  ToGenerate : ℕ → Asked
  ToDebug : Text → Text → Text → Asked
  ToExpand : Text → Text → Asked
  ToJoin : Text → List Text → Asked
  ToPbuild : Text → Text → Text → Text → ℕ → ℕ → ℕ → Asked

-- a request, as what it asks for
abbrev pub told : Request → Asked
told (request.Build asked) =
    ToBuild asked.source.now asked.image.now asked.registers asked.budget asked.step
told (request.Run asked) = ToRun asked.image.now asked.ports.now asked.steps
told (request.Means asked) = ToEvaluate asked.source.now asked.ports.now asked.turns
told (request.Exec asked) = ToExecute asked.source.now asked.ports.now asked.steps
told (request.Layout asked) = ToLayOut asked.sequence.now asked.registers asked.budget
told (request.Check asked) = ToCheck asked.image.now asked.certificate.now
told (request.Asm asked) = ToAssemble asked.text.now asked.image.now
told (request.Dis asked) = ToList asked.image.now
told (request.Gen asked) = ToGenerate asked.number
told (request.Debug asked) = ToDebug asked.image.now asked.ports.now asked.script.now
told (request.Pre asked) = ToExpand asked.source.now asked.output.now
told (request.Join asked) = ToJoin asked.output.now (names_of asked.sources)
told (request.Pbuild asked) =
    ToPbuild asked.source.now asked.first.now asked.ports.now asked.image.now asked.registers asked.budget asked.steps

-- what names and numbers ask for, each of which may be absent: then for nothing
abbrev pub both_by : (Text → Text → Asked) → Option Text → Option Text → Option Asked
both_by what first second = option_and_then (λ a. option_map (what a) second) first

abbrev pub numbered_by : (Text → Text → ℕ → Asked) → Option Text → Option Text → Option ℕ
    → Option Asked
numbered_by what first second number =
    option_and_then (λ a. option_and_then (λ b. option_map (what a b) number) second) first

abbrev pub build_by : Option Text → Option Text → Option ℕ → Option ℕ → Option ℕ → Option Asked
build_by source image registers budget step =
    option_and_then (λ s. option_and_then (λ i. option_and_then (λ r. option_and_then (λ b.
    option_map (ToBuild s i r b) step) budget) registers) image) source

abbrev pub layout_by : Option Text → Option ℕ → Option ℕ → Option Asked
layout_by sequence registers budget =
    option_and_then (λ s. option_and_then (λ r. option_map (ToLayOut s r) budget) registers) sequence

abbrev pub debug_by : Option Text → Option Text → Option Text → Option Asked
debug_by image ports script =
    option_and_then (λ i. option_and_then (λ p. option_map (ToDebug i p) script) ports) image

abbrev pub join_by : Option Text → Option (List Text) → Option Asked
join_by output sources = option_and_then (λ o. option_map (ToJoin o) sources) output

abbrev pub pbuild_by : Option Text → Option Text → Option Text → Option Text → Option ℕ → Option ℕ → Option ℕ → Option Asked
pbuild_by source first ports image registers budget steps =
    option_and_then (λ s. option_and_then (λ f. option_and_then (λ p. option_and_then (λ i. option_and_then (λ r. option_and_then (λ b.
    option_map (ToPbuild s f p i r b) steps) budget) registers) image) ports) first) source

-- what the matches of `build` ask for
abbrev pub build_of : List Row → Option Asked
build_of rows = build_by (first_of (codes "source") rows) (first_of (codes "image") rows)
    (number_of (codes "registers") greatest_registers rows)
    (number_of (codes "budget") greatest_budget rows)
    (number_of (codes "step") greatest_step rows)

-- what the matches of a command of two names and a number ask for
abbrev pub numbered_of : Text → Text → Text → ℕ → (Text → Text → ℕ → Asked) → List Row → Option Asked
numbered_of first second number greatest what rows =
    numbered_by what (first_of first rows) (first_of second rows) (number_of number greatest rows)

-- what the matches of `run` ask for
abbrev pub run_of : List Row → Option Asked
run_of = numbered_of (codes "image") (codes "ports") (codes "steps") greatest_steps ToRun

-- what the matches of `means` ask for
abbrev pub means_of : List Row → Option Asked
means_of = numbered_of (codes "source") (codes "ports") (codes "turns") greatest_turns ToEvaluate

-- what the matches of `exec` ask for
abbrev pub exec_of : List Row → Option Asked
exec_of = numbered_of (codes "source") (codes "ports") (codes "steps") greatest_steps ToExecute

-- what the matches of `layout` ask for
abbrev pub layout_of : List Row → Option Asked
layout_of rows = layout_by (first_of (codes "sequence") rows)
    (number_of (codes "registers") greatest_registers rows)
    (number_of (codes "budget") greatest_budget rows)

-- what the matches of a command of two names ask for
abbrev pub both_of : Text → Text → (Text → Text → Asked) → List Row → Option Asked
both_of first second what rows = both_by what (first_of first rows) (first_of second rows)

-- what the matches of `check` ask for
abbrev pub check_of : List Row → Option Asked
check_of = both_of (codes "image") (codes "certificate") ToCheck

-- what the matches of `asm` ask for
abbrev pub asm_of : List Row → Option Asked
asm_of = both_of (codes "text") (codes "image") ToAssemble

-- what the matches of `dis` ask for
abbrev pub dis_of : List Row → Option Asked
dis_of rows = option_map ToList (first_of (codes "image") rows)

-- what the matches of `gen` ask for
abbrev pub gen_of : List Row → Option Asked
gen_of rows = option_map ToGenerate (number_of (codes "number") greatest_program rows)

-- what the matches of `debug` ask for
abbrev pub debug_of : List Row → Option Asked
debug_of rows = debug_by (first_of (codes "image") rows) (first_of (codes "ports") rows) (first_of (codes "script") rows)

-- what the matches of `pre` ask for
abbrev pub pre_of : List Row → Option Asked
pre_of = both_of (codes "source") (codes "output") ToExpand

-- what the matches of `join` ask for
abbrev pub join_of : List Row → Option Asked
join_of rows = join_by (first_of (codes "output") rows) (names_under (codes "sources") most_sources rows)

-- what the matches of `pbuild` ask for
abbrev pub pbuild_of : List Row → Option Asked
pbuild_of rows = pbuild_by (first_of (codes "source") rows) (first_of (codes "first") rows)
    (first_of (codes "ports") rows) (first_of (codes "image") rows)
    (number_of (codes "registers") greatest_registers rows)
    (number_of (codes "budget") greatest_budget rows)
    (number_of (codes "steps") greatest_steps rows)

-- what the words of a command ask for, of which the first is its name
unfoldable pub asked_to : App → (List Row → Option Asked) → List Text → Option Asked
asked_to app of_rows words = if is_taken app words then of_rows (matches_of app words) else None

abbrev pub asked_to_build : List Text → Option Asked
asked_to_build = asked_to build_app build_of

abbrev pub asked_to_run : List Text → Option Asked
asked_to_run = asked_to run_app run_of

abbrev pub asked_to_evaluate : List Text → Option Asked
asked_to_evaluate = asked_to means_app means_of

abbrev pub asked_to_execute : List Text → Option Asked
asked_to_execute = asked_to exec_app exec_of

abbrev pub asked_to_lay_out : List Text → Option Asked
asked_to_lay_out = asked_to layout_app layout_of

abbrev pub asked_to_check : List Text → Option Asked
asked_to_check = asked_to check_app check_of

abbrev pub asked_to_assemble : List Text → Option Asked
asked_to_assemble = asked_to asm_app asm_of

abbrev pub asked_to_list : List Text → Option Asked
asked_to_list = asked_to dis_app dis_of

abbrev pub asked_to_generate : List Text → Option Asked
asked_to_generate = asked_to gen_app gen_of

abbrev pub asked_to_debug : List Text → Option Asked
asked_to_debug = asked_to debug_app debug_of

abbrev pub asked_to_expand : List Text → Option Asked
asked_to_expand = asked_to pre_app pre_of

abbrev pub asked_to_join : List Text → Option Asked
asked_to_join = asked_to join_app join_of

abbrev pub asked_to_pbuild : List Text → Option Asked
asked_to_pbuild = asked_to pbuild_app pbuild_of

-- the command that a word chooses
abbrev pub name_of : Text → Option Name
name_of word = if bytes_eq word (codes "build") then Some name.Build
    else (if bytes_eq word (codes "run") then Some name.Run
    else (if bytes_eq word (codes "means") then Some name.Means
    else (if bytes_eq word (codes "exec") then Some name.Exec
    else (if bytes_eq word (codes "layout") then Some name.Layout
    else (if bytes_eq word (codes "check") then Some name.Check
    else (if bytes_eq word (codes "asm") then Some name.Asm
    else (if bytes_eq word (codes "dis") then Some name.Dis
    else (if bytes_eq word (codes "gen") then Some name.Gen
    else (if bytes_eq word (codes "debug") then Some name.Debug
    else (if bytes_eq word (codes "pre") then Some name.Pre
    else (if bytes_eq word (codes "join") then Some name.Join
    else (if bytes_eq word (codes "pbuild") then Some name.Pbuild else None))))))))))))

-- how `clap` reads the words of a command
abbrev pub app_of_name : Name → App
app_of_name name.Build = build_app
app_of_name name.Run = run_app
app_of_name name.Means = means_app
app_of_name name.Exec = exec_app
app_of_name name.Layout = layout_app
app_of_name name.Check = check_app
app_of_name name.Asm = asm_app
app_of_name name.Dis = dis_app
app_of_name name.Gen = gen_app
app_of_name name.Debug = debug_app
app_of_name name.Pre = pre_app
app_of_name name.Join = join_app
app_of_name name.Pbuild = pbuild_app

-- what its matches ask for
abbrev pub rows_ask : Name → List Row → Option Asked
rows_ask name.Build = build_of
rows_ask name.Run = run_of
rows_ask name.Means = means_of
rows_ask name.Exec = exec_of
rows_ask name.Layout = layout_of
rows_ask name.Check = check_of
rows_ask name.Asm = asm_of
rows_ask name.Dis = dis_of
rows_ask name.Gen = gen_of
rows_ask name.Debug = debug_of
rows_ask name.Pre = pre_of
rows_ask name.Join = join_of
rows_ask name.Pbuild = pbuild_of

-- what the words ask for, if anything: the first word chooses the command
abbrev pub asked : List Text → Option Asked
asked [] = None
asked (word ∷ rest) = option_and_then (λ n. asked_to (app_of_name n) (rows_ask n) (word ∷ rest)) (name_of word)

-- the words ask for this, and for nothing
abbrev pub Asks : List Text → Asked → Type 0
Asks words what = asked words ≡ Some what

abbrev pub AsksNothing : List Text → Type 0
AsksNothing words = asked words ≡ None

-- a word that `clap` takes for no option: it doesn't begin with `-`, or is `-` alone
abbrev pub is_plain_word : Text → Bool
is_plain_word [] = true
is_plain_word (x ∷ []) = true
is_plain_word (x ∷ y ∷ rest) = not (x == 45)
