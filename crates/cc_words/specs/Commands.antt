-- The commands, as `clap` reads them.
use Rattle.std.specs.Prelude.{ℕ, codes}
use Rattle.clap.specs.Words.{App, Rule, Text, new_app, with_rule}
pub use Rattle.cc_options.specs.Options.{count_rule, letter_rule, name_rule, names_rule, number_rule}

-- the greatest number of steps that a run may have
abbrev pub greatest_steps : ℕ
greatest_steps = 100000000

-- the greatest number of turns that each execution of each loop may have
abbrev pub greatest_turns : ℕ
greatest_turns = 1000000

-- the greatest number of registers that a layout may have
abbrev pub greatest_registers : ℕ
greatest_registers = 4

-- the greatest budget of nodes that a search for a layout may have
abbrev pub greatest_budget : ℕ
greatest_budget = 1000000

-- the greatest step that the layouts of an image may be at
abbrev pub greatest_step : ℕ
greatest_step = 8

-- the greatest number from which a program is made
abbrev pub greatest_program : ℕ
greatest_program = 200

-- the most sources that may be joined
abbrev pub most_sources : ℕ
most_sources = 16

-- `--steps M`
abbrev pub steps_rule : Rule
steps_rule = number_rule (codes "steps") (codes "1000000") greatest_steps

-- `--turns N`
abbrev pub turns_rule : Rule
turns_rule = number_rule (codes "turns") (codes "10000") greatest_turns

-- `-r N`; 114 is the letter `r`
abbrev pub registers_rule : Rule
registers_rule = letter_rule (codes "registers") 114 (codes "1") greatest_registers

-- `--budget B`
abbrev pub budget_rule : Rule
budget_rule = number_rule (codes "budget") (codes "200000") greatest_budget

-- `--step D`
abbrev pub step_rule : Rule
step_rule = number_rule (codes "step") (codes "1") greatest_step

-- a command of one name
abbrev pub single_app : Text → Text → App
single_app name first = with_rule (new_app name) (name_rule first)

-- a command of two names
abbrev pub named_app : Text → Text → Text → App
named_app name first second = with_rule (single_app name first) (name_rule second)

-- `build SRC IMG [-r N] [--budget B] [--step D]`
abbrev pub build_app : App
build_app = with_rule
    (with_rule
    (with_rule (named_app (codes "build") (codes "source") (codes "image")) registers_rule)
    budget_rule)
    step_rule

-- a command of two names and an option
abbrev pub numbered_app : Text → Text → Text → Rule → App
numbered_app name first second number = with_rule (named_app name first second) number

-- `run IMG PORTS [--steps M]`
abbrev pub run_app : App
run_app = numbered_app (codes "run") (codes "image") (codes "ports") steps_rule

-- `means SRC PORTS [--turns N]`
abbrev pub means_app : App
means_app = numbered_app (codes "means") (codes "source") (codes "ports") turns_rule

-- `exec SRC PORTS [--steps M]`
abbrev pub exec_app : App
exec_app = numbered_app (codes "exec") (codes "source") (codes "ports") steps_rule

-- `check IMG CERT`
abbrev pub check_app : App
check_app = named_app (codes "check") (codes "image") (codes "certificate")

-- `layout SEQ [-r N] [--budget B]`
abbrev pub layout_app : App
layout_app = with_rule
    (with_rule
    (single_app (codes "layout") (codes "sequence"))
    registers_rule)
    budget_rule

-- `asm TEXT IMG`
abbrev pub asm_app : App
asm_app = named_app (codes "asm") (codes "text") (codes "image")

-- `dis IMG`
abbrev pub dis_app : App
dis_app = single_app (codes "dis") (codes "image")

-- `debug IMG PORTS SCRIPT`
abbrev pub debug_app : App
debug_app = with_rule (named_app (codes "debug") (codes "image") (codes "ports")) (name_rule (codes "script"))

-- `pre SRC OUT`
abbrev pub pre_app : App
pre_app = named_app (codes "pre") (codes "source") (codes "output")

-- `join OUT SRC..`
abbrev pub join_app : App
join_app = with_rule (single_app (codes "join") (codes "output")) (names_rule (codes "sources") most_sources)

-- `pbuild SRC IMG0 PORTS IMG [-r N] [--budget B] [--steps M]`
abbrev pub pbuild_app : App
pbuild_app = with_rule
    (with_rule
    (with_rule
    (with_rule
    (with_rule (named_app (codes "pbuild") (codes "source") (codes "first")) (name_rule (codes "ports")))
    (name_rule (codes "image")))
    registers_rule)
    budget_rule)
    steps_rule

-- `gen N`
abbrev pub gen_app : App
gen_app = with_rule (new_app (codes "gen")) (count_rule (codes "number") greatest_program)
