-- The pure arguments that those of a call stand for.
use Rattle.std.specs.Prelude.{map}
use Rattle.c_scopes.specs.declared.call_arguments.Arguments as typed
use Rattle.c_scopes.specs.declared.call_arguments.Arguments.TheVariants as forms
use Rattle.c_rules.specs.Typing.{Arguments, Operands, NoPort, Port}
use Rattle.c_conversions.specs.OperandView.{operand_of}

abbrev pub arguments_of : typed.Arguments → Arguments
arguments_of (forms.Operands xs) = Operands (map operand_of xs.items)
arguments_of forms.NoPort = NoPort
arguments_of (forms.Port class port xs) = Port class port (map operand_of xs.items)
