-- The operands that are left follow behind commas.
use Rattle.std.proofs.Common.{◌≡◌, ◌++◌, drop}
use Rattle.c25_dis.specs.Operands.{behind_commas}
use Rattle.c25_dis.proofs.part.push_parts.Given as goal

abbrev pub invariant-loop-part : goal.invariant-loop-part
invariant-loop-part l = l.text.items ++ behind_commas (drop l.part-index l.part-items) ≡ l.initial.text.items ++ behind_commas l.part-items
