-- What the words of a command give it, by what `clap` makes of them.
use Rattle.std.specs.Prelude.{◌&&◌, ℕ, nat_le, max, Bool, true, List, [], length}
use Rattle.std.specs.Prelude.{◌∷◌, map, Option, Some, None, String, string_bytes, Vec}
use Rattle.std.specs.Prelude.{if◌then◌else◌, option_and_then, option_map}
use Rattle.std.specs.Borrow.{Bor}
use Rattle.std.specs.Str.Parse.{digits_value, without_leading_plus}
use Rattle.std.specs.declared.alloc.Global.{Global}
use Rattle.clap.specs.ValueTests.{is_unsigned_in}
use Rattle.clap.specs.Walk.{is_empty}
use Rattle.clap.specs.Words.{App, Row, Rule, Text, all_of, fault_of, first_of, matches_of, new_app, new_rule, one_of, with_rule}
use Rattle.clap.specs.declared.builder.value_parser.ValueParser.TheVariants as parser
use Rattle.cc_options.specs.declared.given.Given.{Given}
use Rattle.cc_options.specs.declared.table.Form.{Form}
use Rattle.cc_options.specs.declared.table.Form.TheVariants as form
use Rattle.cc_options.specs.declared.table.Names.{Names}
use Rattle.cc_options.specs.declared.table.Number.{Number}
use Rattle.cc_options.specs.declared.table.Table.{Table}

-- the words, by their bytes
abbrev pub texts_of : List (String Global) → List Text
texts_of words = map string_bytes words

-- ---- how `clap` reads an argument

-- a name that has to be there
abbrev pub name_rule : Text → Rule
name_rule id = record (new_rule id) { required = true }

-- a number from 1 to the greatest that has to be there
abbrev pub count_rule : Text → ℕ → Rule
count_rule id greatest = record (new_rule id) { required = true; parser = Some (parser.Unsigned 1 greatest) }

-- an option with a number from 1 to the greatest, where none is given the usual one
abbrev pub number_rule : Text → Text → ℕ → Rule
number_rule id usual greatest = record (new_rule id) {
  long = Some id;
  defaults = usual ∷ [];
  parser = Some (parser.Unsigned 1 greatest);
}

-- the same, called by a letter and by no long name
abbrev pub letter_rule : Text → ℕ → Text → ℕ → Rule
letter_rule id letter usual greatest = record (new_rule id) {
  short = Some letter;
  defaults = usual ∷ [];
  parser = Some (parser.Unsigned 1 greatest);
}

-- names, of which one has to be there and at most so many
abbrev pub names_rule : Text → ℕ → Rule
names_rule id most = record (new_rule id) {
  required = true;
  range = Some (record {
    start_inclusive = 1;
    end_inclusive = max most 1;
  });
}

-- ---- what a command has

-- a number: what it is called, how `clap` reads it and the greatest that it may be
pub record Quantity : Type 0 where
  pub id : Text
  pub rule : Rule
  pub greatest : ℕ

-- names: what they are called, and the most that there may be
pub record Several : Type 0 where
  pub id : Text
  pub most : ℕ

-- a command: the word that chooses it, what its names are called, its numbers, and its names behind these
pub record Options : Type 0 where
  pub word : Text
  pub first : Option Text
  pub second : Option Text
  pub third : Option Text
  pub fourth : Option Text
  pub one : Option Quantity
  pub two : Option Quantity
  pub three : Option Quantity
  pub rest : Option Several

abbrev pub rule_by : Form → Text → ℕ → Rule
rule_by form.Word id greatest = count_rule id greatest
rule_by (form.Long usual) id greatest = number_rule id usual.now greatest
rule_by (form.Letter letter usual) id greatest = letter_rule id letter usual.now greatest

abbrev pub quantity_of : Number → Quantity
quantity_of n = record { id = n.id.now; rule = rule_by n.form n.id.now n.greatest; greatest = n.greatest }

abbrev pub name_of : Bor Text → Text
name_of name = name.now

abbrev pub names_of : Vec (Bor Text) Global → List Text
names_of names = map name_of names.items

abbrev pub several_of : Names → Several
several_of n = record { id = n.id.now; most = n.most }

-- a table, as what it says
abbrev pub options_of : Table → Options
options_of t = record {
  word = t.name.now;
  first = option_map name_of t.first;
  second = option_map name_of t.second;
  third = option_map name_of t.third;
  fourth = option_map name_of t.fourth;
  one = option_map quantity_of t.one;
  two = option_map quantity_of t.two;
  three = option_map quantity_of t.three;
  rest = option_map several_of t.rest;
}

-- ---- how `clap` reads the words of a command

abbrev pub named : Option Text → App → App
named None app = app
named (Some id) app = with_rule app (name_rule id)

abbrev pub numbered : Option Quantity → App → App
numbered None app = app
numbered (Some n) app = with_rule app n.rule

abbrev pub with_several : Option Several → App → App
with_several None app = app
with_several (Some s) app = with_rule app (names_rule s.id s.most)

-- a command of its names alone, but for those behind its numbers
abbrev pub app_of_names : Options → App
app_of_names o = named o.fourth (named o.third (named o.second (named o.first (new_app o.word))))

abbrev pub app_of_options : Options → App
app_of_options o = with_several o.rest (numbered o.three (numbered o.two (numbered o.one (app_of_names o))))

-- `clap` takes the words as those of the command
abbrev pub is_taken : App → List Text → Bool
is_taken app words = is_empty (fault_of app words)

-- ---- what it finds

-- the text writes a number in decimal, from 1 to the greatest; a plus may stand first
abbrev pub is_number_to : ℕ → Text → Bool
is_number_to greatest = is_unsigned_in 1 greatest

-- the number that the text writes
abbrev pub number_to : ℕ → Text → Option ℕ
number_to greatest text =
    if is_number_to greatest text then Some (digits_value 10 (without_leading_plus text)) else None

-- the number from 1 to the greatest that the matches hold under its name
abbrev pub number_of : Text → ℕ → List Row → Option ℕ
number_of id greatest rows = option_and_then (number_to greatest) (one_of id rows)

-- the number, if it is from 1 to the greatest
abbrev pub within : ℕ → ℕ → Option ℕ
within greatest n = if nat_le 1 n && nat_le n greatest then Some n else None

abbrev pub number_in : List Row → Quantity → Option ℕ
number_in rows n = number_of n.id n.greatest rows

-- names, if they are from one to the most that there may be
abbrev pub up_to : ℕ → List Text → Option (List Text)
up_to most names = if nat_le 1 (length names) && nat_le (length names) most then Some names else None

-- the names that the matches hold, if they are from one to the most
abbrev pub names_under : Text → ℕ → List Row → Option (List Text)
names_under id most rows = option_and_then (up_to most) (all_of id rows)

abbrev pub names_in : List Row → Several → Option (List Text)
names_in rows s = names_under s.id s.most rows

-- what words give a command: its names, its numbers, and its names behind these
pub record Values : Type 0 where
  pub first : Option Text
  pub second : Option Text
  pub third : Option Text
  pub fourth : Option Text
  pub one : Option ℕ
  pub two : Option ℕ
  pub three : Option ℕ
  pub rest : Option (List Text)

abbrev pub values_of_given : Given → Values
values_of_given g = record {
  first = option_map name_of g.first;
  second = option_map name_of g.second;
  third = option_map name_of g.third;
  fourth = option_map name_of g.fourth;
  one = g.one;
  two = g.two;
  three = g.three;
  rest = option_map names_of g.rest;
}

-- what the matches hold
abbrev pub values_in : Options → List Row → Values
values_in o rows = record {
  first = option_and_then (λ id. first_of id rows) o.first;
  second = option_and_then (λ id. first_of id rows) o.second;
  third = option_and_then (λ id. first_of id rows) o.third;
  fourth = option_and_then (λ id. first_of id rows) o.fourth;
  one = option_and_then (number_in rows) o.one;
  two = option_and_then (number_in rows) o.two;
  three = option_and_then (number_in rows) o.three;
  rest = option_and_then (names_in rows) o.rest;
}

-- what the words give the command, if it takes them: the first of them is its name
unfoldable pub values_of : Options → List Text → Option Values
values_of o words = if is_taken (app_of_options o) words
    then Some (values_in o (matches_of (app_of_options o) words)) else None
