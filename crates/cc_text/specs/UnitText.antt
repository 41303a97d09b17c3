-- The line that refuses sources that aren't joined (docs/COMMANDS.md, "Statuses and lines").
use Rattle.std.specs.Prelude.{ℕ, List, [], ◌++◌, codes, decimal}
use Rattle.c_units.specs.declared.fault.UnitFault.{UnitFault}
use Rattle.c_units.specs.declared.fault.UnitFault.TheVariants.{Lex, Parse, Types, Reserved, Undefined, TooManyTokens, NoMemory}
use Rattle.cc_text.specs.SourceText.{place_line, too_many_line, lex_line, parse_line, type_line}

-- what tells one of several sources, by its number
abbrev pub numbered_source : ℕ → List ℕ
numbered_source file = codes "file " ++ (decimal file ++ codes ": ")

-- a fault of one source has the line of such a fault; want of memory has none
abbrev pub unit_line : UnitFault → List ℕ
unit_line (Lex file why) = lex_line (numbered_source file) why
unit_line (Parse file why) = parse_line (numbered_source file) why
unit_line (Types file why) = type_line (numbered_source file) why
unit_line (Reserved file at) = place_line (numbered_source file) (codes "reserved name") at
unit_line (Undefined name) = codes "source refused: undefined " ++ (name ++ codes "\n")
unit_line (TooManyTokens count) = too_many_line [] (codes "tokens") count
unit_line NoMemory = []
