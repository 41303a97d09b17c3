-- What a fault says of the tokens (docs/LANGUAGE.md, "Grammar").
use Rattle.std.specs.Prelude.{⊤, List}
use Rattle.c_syntax.specs.declared.token.Token.{Token}
use Rattle.c_syntax.specs.Source.{NoSource, IsPlace}
use Rattle.c_parser.specs.declared.fault.ParseFault.{ParseFault}
use Rattle.c_parser.specs.declared.fault.ParseFault.TheVariants as faults

-- a fault of syntax: they have no tree, and the place is that of one of them or their end. Want of memory says nothing.
abbrev pub Says : List Token → ParseFault → Type 0
Says tokens (faults.Syntax at) = NoSource tokens × IsPlace tokens at
Says tokens faults.NoMemory = ⊤
