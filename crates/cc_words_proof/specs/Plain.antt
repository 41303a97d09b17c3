-- What the usual words ask for: what `clap`'s function of the words comes to there.
use Rattle.std.specs.Prelude.{◌≡◌, ◌≢◌, ◌≤◌, ◌<◌, ◌++◌, ℕ, true, false, List, [], ◌∷◌, length, All, codes}
use Rattle.std.specs.Str.Parse.{digits_value, without_leading_plus}
use Rattle.clap.specs.Words.{Text}
use Rattle.cc_words.specs.Asked.{Asked, ToBuild, ToRun, ToEvaluate, ToExecute, ToLayOut, ToCheck, ToAssemble}
use Rattle.cc_words.specs.Asked.{ToList, ToGenerate, ToDebug, ToExpand, ToJoin, ToPbuild}
use Rattle.cc_words.specs.Asked.{Asks, AsksNothing, is_number_to, is_plain_word}
use Rattle.cc_words.specs.Commands.{greatest_budget, greatest_program, greatest_registers, greatest_step}
use Rattle.cc_words.specs.Commands.{greatest_steps, greatest_turns, most_sources}

-- a fact of any two words that look like no option
abbrev pub OnPlain : (Text → Text → Type 0) → Type 0
OnPlain P =
    (a b : Text) → is_plain_word a ≡ true → is_plain_word b ≡ true → P a b

-- `build SRC IMG`
abbrev pub BuildsTwoNames : Type 0
BuildsTwoNames = OnPlain (λ a b. Asks (codes "build" ∷ a ∷ b ∷ []) (ToBuild a b 1 200000 1))

-- `build` with fewer names, or with more, whatever follows
abbrev pub BuildsNoOtherNames : Type 0
BuildsNoOtherNames = AsksNothing (codes "build" ∷ [])
    × ((a : Text) → is_plain_word a ≡ true → AsksNothing (codes "build" ∷ a ∷ []))
    × OnPlain (λ a b. (c : Text) (rest : List Text) → is_plain_word c ≡ true
    → AsksNothing (codes "build" ∷ a ∷ b ∷ c ∷ rest))

-- `run IMG PORTS`
abbrev pub RunsTwoNames : Type 0
RunsTwoNames = OnPlain (λ a b. Asks (codes "run" ∷ a ∷ b ∷ []) (ToRun a b 1000000))

-- `means SRC PORTS`
abbrev pub MeansTwoNames : Type 0
MeansTwoNames = OnPlain (λ a b. Asks (codes "means" ∷ a ∷ b ∷ []) (ToEvaluate a b 10000))

-- this holds of the number that a text writes, and the words ask for nothing where it writes none
-- from 1 to the greatest
abbrev pub WithNumber : ℕ → (ℕ → Type 0) → Text → List Text → Type 0
WithNumber greatest P text words = (is_number_to greatest text ≡ true
    → P (digits_value 10 (without_leading_plus text)))
    × (is_number_to greatest text ≡ false → AsksNothing words)

-- the words ask for what the number makes it that a text writes, and for nothing where it writes
-- none from 1 to the greatest
abbrev pub AsksFor : ℕ → (ℕ → Asked) → Text → List Text → Type 0
AsksFor greatest what text words = WithNumber greatest (λ n. Asks words (what n)) text words

-- `build SRC IMG -r N`, where N looks like no option
abbrev pub BuildsWithRegisters : Type 0
BuildsWithRegisters = OnPlain (λ a b. (text : Text) → is_plain_word text ≡ true
    → AsksFor greatest_registers (λ registers. ToBuild a b registers 200000 1) text
    (codes "build" ∷ a ∷ b ∷ codes "-r" ∷ text ∷ []))

-- `build SRC IMG --budget B`
abbrev pub BuildsWithBudget : Type 0
BuildsWithBudget = OnPlain (λ a b. (text : Text) → is_plain_word text ≡ true
    → AsksFor greatest_budget (λ budget. ToBuild a b 1 budget 1) text
    (codes "build" ∷ a ∷ b ∷ codes "--budget" ∷ text ∷ []))

-- `build SRC IMG --step D`
abbrev pub BuildsWithStep : Type 0
BuildsWithStep = OnPlain (λ a b. (text : Text) → is_plain_word text ≡ true
    → AsksFor greatest_step (ToBuild a b 1 200000) text
    (codes "build" ∷ a ∷ b ∷ codes "--step" ∷ text ∷ []))

-- `build SRC IMG --step=D`
abbrev pub BuildsWithStepAttached : Type 0
BuildsWithStepAttached = OnPlain (λ a b. (text : Text)
    → AsksFor greatest_step (ToBuild a b 1 200000) text
    (codes "build" ∷ a ∷ b ∷ (codes "--step=" ++ text) ∷ []))

-- the words ask for an image for the registers, within the budget and at the step that three texts
-- write, and for nothing where one of them writes no number of its range
abbrev pub BuildsFor : Text → Text → Text → Text → Text → List Text → Type 0
BuildsFor a b registers budget step words = WithNumber greatest_registers (λ n.
    WithNumber greatest_budget (λ m. AsksFor greatest_step (ToBuild a b n m) step words)
    budget words)
    registers words

-- `build SRC IMG -r N --budget B --step D`, where N, B and D look like no options
abbrev pub BuildsWithAll : Type 0
BuildsWithAll = OnPlain (λ a b. OnPlain (λ n m. (d : Text) → is_plain_word d ≡ true
    → BuildsFor a b n m d
    (codes "build" ∷ a ∷ b ∷ codes "-r" ∷ n ∷ codes "--budget" ∷ m ∷ codes "--step" ∷ d ∷ [])))

-- the words ask for a run of the steps that a text writes
abbrev pub RunsFor : Text → Text → Text → List Text → Type 0
RunsFor a b = AsksFor greatest_steps (ToRun a b)

-- `run IMG PORTS --steps M`, where M looks like no option
abbrev pub RunsWithSteps : Type 0
RunsWithSteps = OnPlain (λ a b. (text : Text) → is_plain_word text ≡ true
    → RunsFor a b text (codes "run" ∷ a ∷ b ∷ codes "--steps" ∷ text ∷ []))

-- `run --steps M IMG PORTS`
abbrev pub RunsWithStepsFirst : Type 0
RunsWithStepsFirst = OnPlain (λ a b. (text : Text) → is_plain_word text ≡ true
    → RunsFor a b text (codes "run" ∷ codes "--steps" ∷ text ∷ a ∷ b ∷ []))

-- `run IMG PORTS --steps=M`
abbrev pub RunsWithStepsAttached : Type 0
RunsWithStepsAttached = OnPlain (λ a b. (text : Text)
    → RunsFor a b text (codes "run" ∷ a ∷ b ∷ (codes "--steps=" ++ text) ∷ []))

-- the words ask for the meaning within the turns that a text writes
abbrev pub MeansFor : Text → Text → Text → List Text → Type 0
MeansFor a b = AsksFor greatest_turns (ToEvaluate a b)

-- `means SRC PORTS --turns N`, where N looks like no option
abbrev pub MeansWithTurns : Type 0
MeansWithTurns = OnPlain (λ a b. (text : Text) → is_plain_word text ≡ true
    → MeansFor a b text (codes "means" ∷ a ∷ b ∷ codes "--turns" ∷ text ∷ []))

-- `means --turns N SRC PORTS`
abbrev pub MeansWithTurnsFirst : Type 0
MeansWithTurnsFirst = OnPlain (λ a b. (text : Text) → is_plain_word text ≡ true
    → MeansFor a b text (codes "means" ∷ codes "--turns" ∷ text ∷ a ∷ b ∷ []))

-- `means SRC PORTS --turns=N`
abbrev pub MeansWithTurnsAttached : Type 0
MeansWithTurnsAttached = OnPlain (λ a b. (text : Text)
    → MeansFor a b text (codes "means" ∷ a ∷ b ∷ (codes "--turns=" ++ text) ∷ []))

-- `exec SRC PORTS`
abbrev pub ExecutesTwoNames : Type 0
ExecutesTwoNames = OnPlain (λ a b. Asks (codes "exec" ∷ a ∷ b ∷ []) (ToExecute a b 1000000))

-- the words ask for a run of a source for the steps that a text writes
abbrev pub ExecutesFor : Text → Text → Text → List Text → Type 0
ExecutesFor a b = AsksFor greatest_steps (ToExecute a b)

-- `exec SRC PORTS --steps M`, where M looks like no option
abbrev pub ExecutesWithSteps : Type 0
ExecutesWithSteps = OnPlain (λ a b. (text : Text) → is_plain_word text ≡ true
    → ExecutesFor a b text (codes "exec" ∷ a ∷ b ∷ codes "--steps" ∷ text ∷ []))

-- `exec --steps M SRC PORTS`
abbrev pub ExecutesWithStepsFirst : Type 0
ExecutesWithStepsFirst = OnPlain (λ a b. (text : Text) → is_plain_word text ≡ true
    → ExecutesFor a b text (codes "exec" ∷ codes "--steps" ∷ text ∷ a ∷ b ∷ []))

-- `exec SRC PORTS --steps=M`
abbrev pub ExecutesWithStepsAttached : Type 0
ExecutesWithStepsAttached = OnPlain (λ a b. (text : Text)
    → ExecutesFor a b text (codes "exec" ∷ a ∷ b ∷ (codes "--steps=" ++ text) ∷ []))

-- `layout SEQ`
abbrev pub LaysOutOneName : Type 0
LaysOutOneName = (a : Text) → is_plain_word a ≡ true
    → Asks (codes "layout" ∷ a ∷ []) (ToLayOut a 1 200000)

-- `layout` with no name, or with more than one, whatever follows
abbrev pub LaysOutNoOtherNames : Type 0
LaysOutNoOtherNames = AsksNothing (codes "layout" ∷ [])
    × OnPlain (λ a b. (rest : List Text) → AsksNothing (codes "layout" ∷ a ∷ b ∷ rest))

-- the words ask for a layout for the registers that a text writes
abbrev pub LaysOutOver : Text → Text → List Text → Type 0
LaysOutOver a = AsksFor greatest_registers (λ registers. ToLayOut a registers 200000)

-- `layout SEQ -r N`, where N looks like no option
abbrev pub LaysOutWithRegisters : Type 0
LaysOutWithRegisters = OnPlain (λ a text.
    LaysOutOver a text (codes "layout" ∷ a ∷ codes "-r" ∷ text ∷ []))

-- `layout -r N SEQ`
abbrev pub LaysOutWithRegistersFirst : Type 0
LaysOutWithRegistersFirst = OnPlain (λ a text.
    LaysOutOver a text (codes "layout" ∷ codes "-r" ∷ text ∷ a ∷ []))

-- `layout SEQ -rN`, where N isn't empty and begins with no `=` (61), and `layout SEQ -r=N`
abbrev pub LaysOutWithRegistersAttached : Type 0
LaysOutWithRegistersAttached = (a : Text) → is_plain_word a ≡ true
    → ((x : ℕ) (text : Text) → x ≢ 61
    → LaysOutOver a (x ∷ text) (codes "layout" ∷ a ∷ (codes "-r" ++ x ∷ text) ∷ []))
    × ((text : Text) → LaysOutOver a text (codes "layout" ∷ a ∷ (codes "-r=" ++ text) ∷ []))

-- the words ask for a layout within the budget that a text writes
abbrev pub LaysOutWithin : Text → Text → List Text → Type 0
LaysOutWithin a = AsksFor greatest_budget (ToLayOut a 1)

-- `layout SEQ --budget B`, where B looks like no option
abbrev pub LaysOutWithBudget : Type 0
LaysOutWithBudget = OnPlain (λ a text.
    LaysOutWithin a text (codes "layout" ∷ a ∷ codes "--budget" ∷ text ∷ []))

-- `layout --budget B SEQ`
abbrev pub LaysOutWithBudgetFirst : Type 0
LaysOutWithBudgetFirst = OnPlain (λ a text.
    LaysOutWithin a text (codes "layout" ∷ codes "--budget" ∷ text ∷ a ∷ []))

-- `layout SEQ --budget=B`
abbrev pub LaysOutWithBudgetAttached : Type 0
LaysOutWithBudgetAttached = (a text : Text) → is_plain_word a ≡ true
    → LaysOutWithin a text (codes "layout" ∷ a ∷ (codes "--budget=" ++ text) ∷ [])

-- the words ask for a layout for the registers and within the budget that two texts write, and for
-- nothing where one of them writes no number of its range
abbrev pub LaysOutFor : Text → Text → Text → List Text → Type 0
LaysOutFor a registers budget words = WithNumber greatest_registers
    (λ n. AsksFor greatest_budget (ToLayOut a n) budget words)
    registers words

-- `layout SEQ -r N --budget B`, where N and B look like no options
abbrev pub LaysOutWithBoth : Type 0
LaysOutWithBoth = OnPlain (λ n b. (a : Text) → is_plain_word a ≡ true
    → LaysOutFor a n b (codes "layout" ∷ a ∷ codes "-r" ∷ n ∷ codes "--budget" ∷ b ∷ []))

-- `layout -r N --budget B SEQ`
abbrev pub LaysOutWithBothFirst : Type 0
LaysOutWithBothFirst = OnPlain (λ n b. (a : Text) → is_plain_word a ≡ true
    → LaysOutFor a n b (codes "layout" ∷ codes "-r" ∷ n ∷ codes "--budget" ∷ b ∷ a ∷ []))

-- `layout SEQ --budget B -r N`
abbrev pub LaysOutWithBothTurned : Type 0
LaysOutWithBothTurned = OnPlain (λ n b. (a : Text) → is_plain_word a ≡ true
    → LaysOutFor a n b (codes "layout" ∷ a ∷ codes "--budget" ∷ b ∷ codes "-r" ∷ n ∷ []))

-- `check IMG CERT`
abbrev pub ChecksTwoNames : Type 0
ChecksTwoNames = OnPlain (λ a b. Asks (codes "check" ∷ a ∷ b ∷ []) (ToCheck a b))

-- `check` with fewer names, or with more, whatever follows
abbrev pub ChecksNoOtherNames : Type 0
ChecksNoOtherNames = AsksNothing (codes "check" ∷ [])
    × ((a : Text) → is_plain_word a ≡ true → AsksNothing (codes "check" ∷ a ∷ []))
    × OnPlain (λ a b. (c : Text) (rest : List Text) → is_plain_word c ≡ true
    → AsksNothing (codes "check" ∷ a ∷ b ∷ c ∷ rest))

-- `asm TEXT IMG`
abbrev pub AssemblesTwoNames : Type 0
AssemblesTwoNames = OnPlain (λ a b. Asks (codes "asm" ∷ a ∷ b ∷ []) (ToAssemble a b))

-- `asm` with fewer names, or with more, whatever follows
abbrev pub AssemblesNoOtherNames : Type 0
AssemblesNoOtherNames = AsksNothing (codes "asm" ∷ [])
    × ((a : Text) → is_plain_word a ≡ true → AsksNothing (codes "asm" ∷ a ∷ []))
    × OnPlain (λ a b. (c : Text) (rest : List Text) → is_plain_word c ≡ true
    → AsksNothing (codes "asm" ∷ a ∷ b ∷ c ∷ rest))

-- `dis IMG`
abbrev pub ListsOneName : Type 0
ListsOneName = (a : Text) → is_plain_word a ≡ true → Asks (codes "dis" ∷ a ∷ []) (ToList a)

-- `dis` with no name, or with more than one, whatever follows
abbrev pub ListsNoOtherNames : Type 0
ListsNoOtherNames = AsksNothing (codes "dis" ∷ [])
    × OnPlain (λ a b. (rest : List Text) → AsksNothing (codes "dis" ∷ a ∷ b ∷ rest))

-- `gen N`, where N looks like no option
abbrev pub GeneratesOneNumber : Type 0
GeneratesOneNumber = (text : Text) → is_plain_word text ≡ true
    → AsksFor greatest_program ToGenerate text (codes "gen" ∷ text ∷ [])

-- `gen` with no number
abbrev pub GeneratesNoOtherWords : Type 0
GeneratesNoOtherWords = AsksNothing (codes "gen" ∷ [])

-- `debug IMG PORTS SCRIPT`
abbrev pub DebugsThreeNames : Type 0
DebugsThreeNames = OnPlain (λ a b. (c : Text) → is_plain_word c ≡ true
    → Asks (codes "debug" ∷ a ∷ b ∷ c ∷ []) (ToDebug a b c))

-- `debug` with fewer names, or with more, whatever follows
abbrev pub DebugsNoOtherNames : Type 0
DebugsNoOtherNames = AsksNothing (codes "debug" ∷ [])
    × ((a : Text) → is_plain_word a ≡ true → AsksNothing (codes "debug" ∷ a ∷ []))
    × OnPlain (λ a b. AsksNothing (codes "debug" ∷ a ∷ b ∷ []))
    × OnPlain (λ a b. (c d : Text) (rest : List Text) → is_plain_word c ≡ true → is_plain_word d ≡ true
    → AsksNothing (codes "debug" ∷ a ∷ b ∷ c ∷ d ∷ rest))

-- `pre SRC OUT`
abbrev pub ExpandsTwoNames : Type 0
ExpandsTwoNames = OnPlain (λ a b. Asks (codes "pre" ∷ a ∷ b ∷ []) (ToExpand a b))

-- `pre` with fewer names, or with more, whatever follows
abbrev pub ExpandsNoOtherNames : Type 0
ExpandsNoOtherNames = AsksNothing (codes "pre" ∷ [])
    × ((a : Text) → is_plain_word a ≡ true → AsksNothing (codes "pre" ∷ a ∷ []))
    × OnPlain (λ a b. (c : Text) (rest : List Text) → is_plain_word c ≡ true
    → AsksNothing (codes "pre" ∷ a ∷ b ∷ c ∷ rest))

-- a fact of any word and words that look like no options
abbrev pub OnAllPlain : (Text → List Text → Type 0) → Type 0
OnAllPlain P = (a : Text) (words : List Text) → is_plain_word a ≡ true → All (λ word. is_plain_word word ≡ true) words → P a words

-- `join OUT SRC..`, with one to sixteen sources
abbrev pub JoinsNames : Type 0
JoinsNames = OnAllPlain (λ a sources. 1 ≤ length sources → length sources ≤ most_sources
    → Asks (codes "join" ∷ a ∷ sources) (ToJoin a sources))

-- `join` with fewer names, or with more, whatever follows
abbrev pub JoinsNoOtherNames : Type 0
JoinsNoOtherNames = AsksNothing (codes "join" ∷ [])
    × ((a : Text) → is_plain_word a ≡ true → AsksNothing (codes "join" ∷ a ∷ []))
    × OnAllPlain (λ a sources. (rest : List Text) → most_sources < length sources → AsksNothing (codes "join" ∷ a ∷ (sources ++ rest)))

-- a fact of any four words that look like no option
abbrev pub OnFourPlain : (Text → Text → Text → Text → Type 0) → Type 0
OnFourPlain P = OnPlain (λ a b. OnPlain (λ c e. P a b c e))

-- `pbuild SRC IMG0 PORTS IMG`
abbrev pub PbuildsFourNames : Type 0
PbuildsFourNames = OnFourPlain (λ a b c e. Asks (codes "pbuild" ∷ a ∷ b ∷ c ∷ e ∷ []) (ToPbuild a b c e 1 200000 1000000))

-- `pbuild` with fewer names, or with more, whatever follows
abbrev pub PbuildsNoOtherNames : Type 0
PbuildsNoOtherNames = AsksNothing (codes "pbuild" ∷ [])
    × ((a : Text) → is_plain_word a ≡ true → AsksNothing (codes "pbuild" ∷ a ∷ []))
    × OnPlain (λ a b. AsksNothing (codes "pbuild" ∷ a ∷ b ∷ []))
    × OnPlain (λ a b. (c : Text) → is_plain_word c ≡ true → AsksNothing (codes "pbuild" ∷ a ∷ b ∷ c ∷ []))
    × OnFourPlain (λ a b c e. (word : Text) (rest : List Text) → is_plain_word word ≡ true
    → AsksNothing (codes "pbuild" ∷ a ∷ b ∷ c ∷ e ∷ word ∷ rest))

-- the words ask for layouts for a recorded run, over the registers, within the budget and for the steps
-- that three texts write, and for nothing where one of them writes no number of its range
abbrev pub PbuildsFor : Text → Text → Text → Text → Text → Text → Text → List Text → Type 0
PbuildsFor a b c e registers budget steps words = WithNumber greatest_registers (λ n.
    WithNumber greatest_budget (λ m. AsksFor greatest_steps (ToPbuild a b c e n m) steps words)
    budget words)
    registers words

-- `pbuild SRC IMG0 PORTS IMG -r N --budget B --steps M`, where N, B and M look like no options
abbrev pub PbuildsWithAll : Type 0
PbuildsWithAll = OnFourPlain (λ a b c e. OnPlain (λ n m. (d : Text) → is_plain_word d ≡ true
    → PbuildsFor a b c e n m d
    (codes "pbuild" ∷ a ∷ b ∷ c ∷ e ∷ codes "-r" ∷ n ∷ codes "--budget" ∷ m ∷ codes "--steps" ∷ d ∷ [])))

-- `pbuild SRC IMG0 PORTS IMG --step D`, whatever D is and whatever follows: the step is no option here
abbrev pub PbuildsWithoutStep : Type 0
PbuildsWithoutStep = OnFourPlain (λ a b c e. (rest : List Text) → AsksNothing (codes "pbuild" ∷ a ∷ b ∷ c ∷ e ∷ codes "--step" ∷ rest))
