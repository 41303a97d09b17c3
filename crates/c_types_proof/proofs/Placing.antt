-- In the typed program of a source the objects of each function stand where the source has them.
use Rattle.std.specs.Prelude.{All}
use Rattle.c_syntax.specs.SyntaxTree.{UnitTree}
use Rattle.c_syntax.specs.Values.{UnitHasValues}
use Rattle.c_tree.specs.Placed.{FunctionIsPlaced}
use Rattle.c_tree.specs.TypedTree.{ProgramTree}
use Rattle.c_tree.specs.WellFormedProgram.{IsProgram}
use Rattle.c_rules.specs.Checked.{IsTyped}
use Rattle.c_types_proof.proofs.Units.{all_declared, all_ordered, all_placed, all_before_use, all_listed, all_exact}
use Rattle.c_types_proof.proofs.Within.{all_used}

pub all_are_placed : (unit : UnitTree) (program : ProgramTree) → UnitHasValues unit → IsProgram program → IsTyped unit program → All FunctionIsPlaced program.functions
all_are_placed unit program values formed typed k d below = record {
  declared = all_declared unit program typed k d below;
  ordered = all_ordered unit program typed k d below;
  used = all_used program formed k d below;
  filled = all_exact unit program values typed k d below;
  own = all_placed unit program typed k d below;
  first = all_before_use unit program typed k d below;
  parameters = (all_listed unit program typed k d below).parameters;
}
