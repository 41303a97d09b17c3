-- The pure operands that the checker's stand for.
use Rattle.c_tree.specs.View.{expr_of}
use Rattle.c_conversions.specs.declared.conversions.Operand as memory
use Rattle.c_rules.specs.Operands.{Operand}

abbrev pub operand_of : memory.Operand → Operand
operand_of x = record { value = expr_of x.value; null = x.null }
