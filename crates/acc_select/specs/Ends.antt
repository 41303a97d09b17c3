-- Items that end a function.
use Rattle.std.specs.Prelude.{Bool, true, false}
use Rattle.acc_code.specs.AccTree.{Item, Return}

abbrev pub is_return : Item → Bool
is_return Return = true
is_return x = false
