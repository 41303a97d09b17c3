-- What the forms of operands say of them.
use Rattle.std.specs.Prelude.{Bool, true, false}
use Rattle.tree_code.specs.declared.counting.OperandForm.{OperandForm}
use Rattle.tree_code.specs.declared.counting.OperandForm.TheVariants.{Constant, Name, Computed}

abbrev pub constant_form : OperandForm → Bool
constant_form Constant = true
constant_form Name = false
constant_form Computed = false

abbrev pub simple_form : OperandForm → Bool
simple_form Constant = true
simple_form Name = true
simple_form Computed = false
