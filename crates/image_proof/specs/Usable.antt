-- Items that may be used as they are, whatever is known when they run.
use Rattle.std.specs.Prelude.{⊤}
use Rattle.acc_code.specs.AccTree.{Item, Op, Switch}
use Rattle.emit_proof.specs.Addressed.{IsWordOperand}
use Rattle.emit_proof.specs.Code.{AreWordLabels}

-- numbers are words, and so are the values of cases
abbrev pub IsUsableItem : Item → Type 0
IsUsableItem (Op o m) = IsWordOperand m
IsUsableItem (Switch cs body) = AreWordLabels cs
IsUsableItem x = ⊤
