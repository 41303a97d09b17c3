use Rattle.std.proofs.Common.{◌≡◌, map, drop}
use Rattle.std.specs.Vec.Iter.{into_iter_items}
use Rattle.c_rules.specs.Operands as rules
use Rattle.c_conversions.specs.OperandView.{operand_of}
use Rattle.c_operands.proofs.OperandLists.{passed_after}
use Rattle.c_operands.proofs.arguments.passed.Given as goal

-- the arguments so far are behind none, and the others are still to come; none so far is void
abbrev pub invariant-loop-kind : goal.invariant-loop-kind
invariant-loop-kind l = record {
  all : rules.passed l.kinds l.at (map operand_of l.fn.xs.items)
      ≡ passed_after l.values.items (rules.passed (drop l.kind-index l.kinds) l.at (map operand_of (into_iter_items l.operands)));
  void : l.void ≡ rules.any_void (map operand_of (into_iter_items l.operands));
}
