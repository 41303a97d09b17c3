-- The fault of a file for a fault of the lexer, parser or checker.
use Rattle.std.specs.Prelude.{ℕ, Option, Some, None}
use Rattle.c_lexer.specs.declared.fault.LexFault.{LexFault}
use Rattle.c_lexer.specs.declared.fault.LexFault.TheVariants as lex_faults
use Rattle.c_parser.specs.declared.fault.ParseFault.{ParseFault}
use Rattle.c_parser.specs.declared.fault.ParseFault.TheVariants as parse_faults
use Rattle.c_rules.specs.declared.fault.TypeFault.{TypeFault}
use Rattle.c_rules.specs.declared.fault.TypeFault.TheVariants as types
use Rattle.c_units.specs.declared.fault.UnitFault.{UnitFault}
use Rattle.c_units.specs.declared.fault.UnitFault.TheVariants.{Lex, Parse, Types, NoMemory}

abbrev pub of_lex_fault : ℕ → LexFault → UnitFault
of_lex_fault number lex_faults.NoMemory = NoMemory
of_lex_fault number why = Lex number why

abbrev pub of_parse_fault : ℕ → ParseFault → UnitFault
of_parse_fault number parse_faults.NoMemory = NoMemory
of_parse_fault number why = Parse number why

-- what is wanted of a whole program is no fault of a file
abbrev pub of_type_fault : ℕ → TypeFault → Option UnitFault
of_type_fault number (types.MissingMain at) = None
of_type_fault number (types.MissingBody at) = None
of_type_fault number (types.Recursion chain) = None
of_type_fault number (types.Limit which count) = None
of_type_fault number types.NoMemory = Some NoMemory
of_type_fault number why = Some (Types number why)
