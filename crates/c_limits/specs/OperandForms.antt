-- What the forms of operands say of them.
use Rattle.std.specs.Prelude.{Bool, true, false}
use Rattle.c_limits.specs.declared.temporaries.OperandForm.{OperandForm}
use Rattle.c_limits.specs.declared.temporaries.OperandForm.TheVariants.{Constant, Name, Computed}

abbrev pub constant_form : OperandForm → Bool
constant_form Constant = true
constant_form Name = false
constant_form Computed = false

abbrev pub simple_form : OperandForm → Bool
simple_form Constant = true
simple_form Name = true
simple_form Computed = false
