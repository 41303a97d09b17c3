use Rattle.acc_operations.specs.Appended.{Appends}
use Rattle.acc_select.specs.Forms.{parameter_items}
use Rattle.acc_select.proofs.forms.parameters.Given as goal

abbrev pub invariant-loop-index : goal.invariant-loop-index
invariant-loop-index l = Appends l.initial.code.items l.code.items (parameter_items l.function 0 l.t l.index)
