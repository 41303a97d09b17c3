-- The fault of a source that the fault of a part is. Want of memory in a part is want of memory.
use Rattle.c_lexer.specs.declared.fault.LexFault.{LexFault}
use Rattle.c_lexer.specs.declared.fault.LexFault.TheVariants as lex
use Rattle.c_parser.specs.declared.fault.ParseFault.{ParseFault}
use Rattle.c_parser.specs.declared.fault.ParseFault.TheVariants as parse
use Rattle.c_rules.specs.declared.fault.TypeFault.{TypeFault}
use Rattle.c_rules.specs.declared.fault.TypeFault.TheVariants as types
use Rattle.cc_compile.specs.declared.fault.BuildFault.{BuildFault}
use Rattle.cc_compile.specs.declared.translation_fault.TranslationFault.{TranslationFault}
use Rattle.cc_compile.specs.declared.translation_fault.TranslationFault.TheVariants as translation
use Rattle.cc_compile.specs.declared.fault.BuildFault.TheVariants.{Lex, Parse, Types, Plan, Link, NoMemory}

abbrev pub of_lex_fault : LexFault → BuildFault
of_lex_fault lex.NoMemory = NoMemory
of_lex_fault why = Lex why

abbrev pub of_parse_fault : ParseFault → BuildFault
of_parse_fault parse.NoMemory = NoMemory
of_parse_fault why = Parse why

abbrev pub of_type_fault : TypeFault → BuildFault
of_type_fault types.NoMemory = NoMemory
of_type_fault why = Types why

abbrev pub of_translation_fault : TranslationFault → BuildFault
of_translation_fault (translation.Plan why) = Plan why
of_translation_fault (translation.Link why) = Link why
of_translation_fault translation.NoMemory = NoMemory
