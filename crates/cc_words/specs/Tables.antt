-- The commands, as tables of their names and numbers.
use Rattle.std.specs.Prelude.{ℕ, nat_lt, Option, Some, None, codes, if◌then◌else◌, option_and_then, option_map}
use Rattle.clap.specs.Words.{Text}
use Rattle.cc_options.specs.Options.{Options, Quantity, Several, Values}
use Rattle.cc_words.specs.Asked.{Asked, ToAssemble, ToCheck, ToEvaluate, ToExecute, ToExpand, ToGenerate}
use Rattle.cc_words.specs.Asked.{ToList, ToRun, both_by, build_by, debug_by, join_by, layout_by, numbered_by, pbuild_by}
use Rattle.cc_words.specs.Commands.{budget_rule, count_rule, greatest_budget, greatest_program, greatest_registers}
use Rattle.cc_words.specs.Commands.{greatest_step, greatest_steps, greatest_turns, most_sources, registers_rule, step_rule}
use Rattle.cc_words.specs.Commands.{steps_rule, turns_rule}
use Rattle.cc_words.specs.declared.name.Name.{Name}
use Rattle.cc_words.specs.declared.name.Name.TheVariants as name

abbrev pub steps : Quantity
steps = record { id = codes "steps"; rule = steps_rule; greatest = greatest_steps }

abbrev pub turns : Quantity
turns = record { id = codes "turns"; rule = turns_rule; greatest = greatest_turns }

abbrev pub registers : Quantity
registers = record { id = codes "registers"; rule = registers_rule; greatest = greatest_registers }

abbrev pub budget : Quantity
budget = record { id = codes "budget"; rule = budget_rule; greatest = greatest_budget }

abbrev pub step : Quantity
step = record { id = codes "step"; rule = step_rule; greatest = greatest_step }

abbrev pub program : Quantity
program = record {
  id = codes "number";
  rule = count_rule (codes "number") greatest_program;
  greatest = greatest_program;
}

abbrev pub sources : Several
sources = record { id = codes "sources"; most = most_sources }

-- a command of two names and at most a number
abbrev pub two_names : Text → Text → Text → Option Quantity → Options
two_names word first second number = record {
  word = word;
  first = Some first;
  second = Some second;
  third = None;
  fourth = None;
  one = number;
  two = None;
  three = None;
  rest = None;
}

-- what each command has
abbrev pub options_of_name : Name → Options
options_of_name name.Build = record (two_names (codes "build") (codes "source") (codes "image") (Some registers)) {
  two = Some budget;
  three = Some step;
}
options_of_name name.Run = two_names (codes "run") (codes "image") (codes "ports") (Some steps)
options_of_name name.Means = two_names (codes "means") (codes "source") (codes "ports") (Some turns)
options_of_name name.Exec = two_names (codes "exec") (codes "source") (codes "ports") (Some steps)
options_of_name name.Layout = record {
  word = codes "layout";
  first = Some (codes "sequence");
  second = None;
  third = None;
  fourth = None;
  one = Some registers;
  two = Some budget;
  three = None;
  rest = None;
}
options_of_name name.Check = two_names (codes "check") (codes "image") (codes "certificate") None
options_of_name name.Asm = two_names (codes "asm") (codes "text") (codes "image") None
options_of_name name.Dis = record {
  word = codes "dis";
  first = Some (codes "image");
  second = None;
  third = None;
  fourth = None;
  one = None;
  two = None;
  three = None;
  rest = None;
}
options_of_name name.Gen = record {
  word = codes "gen";
  first = None;
  second = None;
  third = None;
  fourth = None;
  one = Some program;
  two = None;
  three = None;
  rest = None;
}
options_of_name name.Debug = record (two_names (codes "debug") (codes "image") (codes "ports") None) { third = Some (codes "script") }
options_of_name name.Pre = two_names (codes "pre") (codes "source") (codes "output") None
options_of_name name.Join = record {
  word = codes "join";
  first = Some (codes "output");
  second = None;
  third = None;
  fourth = None;
  one = None;
  two = None;
  three = None;
  rest = Some sources;
}
options_of_name name.Pbuild = record (two_names (codes "pbuild") (codes "source") (codes "first") (Some registers)) {
  third = Some (codes "ports");
  fourth = Some (codes "image");
  two = Some budget;
  three = Some steps;
}

-- a number that a byte holds
abbrev pub byte_of : Option ℕ → Option ℕ
byte_of = option_and_then (λ n. if nat_lt n 256 then Some n else None)

-- what the values of a command ask for
abbrev pub values_ask : Name → Values → Option Asked
values_ask name.Build v = build_by v.first v.second (byte_of v.one) v.two (byte_of v.three)
values_ask name.Run v = numbered_by ToRun v.first v.second v.one
values_ask name.Means v = numbered_by ToEvaluate v.first v.second v.one
values_ask name.Exec v = numbered_by ToExecute v.first v.second v.one
values_ask name.Layout v = layout_by v.first (byte_of v.one) v.two
values_ask name.Check v = both_by ToCheck v.first v.second
values_ask name.Asm v = both_by ToAssemble v.first v.second
values_ask name.Dis v = option_map ToList v.first
values_ask name.Gen v = option_map ToGenerate v.one
values_ask name.Debug v = debug_by v.first v.second v.third
values_ask name.Pre v = both_by ToExpand v.first v.second
values_ask name.Join v = join_by v.first v.rest
values_ask name.Pbuild v = pbuild_by v.first v.second v.third v.fourth (byte_of v.one) v.two v.three
