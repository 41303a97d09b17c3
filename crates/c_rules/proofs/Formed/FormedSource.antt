-- The program that is made of a source is well-formed.
use Rattle.std.proofs.Common.{◌≡◌, sym, subst}
use Rattle.std.specs.Prelude.{All}
use Rattle.word_base.specs.Name.{IsName}
use Rattle.c_tree.specs.c_syntax.Counts.{IsWithinLimits}
use Rattle.c_tree.specs.c_syntax.FunctionNames.{function_names}
use Rattle.c_tree.specs.c_syntax.SyntaxTree.{UnitTree}
use Rattle.c_tree.specs.TypedTree.{ProgramTree}
use Rattle.c_tree.specs.WellFormedProgram.{IsProgram}
use Rattle.c_rules.specs.Checked.{AreWhole, IsTyped}
use Rattle.c_rules.specs.Outcome.{Is}
use Rattle.c_rules.specs.Programs.{program_tree}
use Rattle.c_rules.specs.Units.{File, typed_unit}
use Rattle.c_rules.proofs.Formed.Context.{of_is}
use Rattle.c_rules.proofs.Formed.NamesKept.{same_names}
use Rattle.c_rules.proofs.Formed.ObjectCount.{few_objects}
use Rattle.c_rules.proofs.Formed.ProgramTypes.{well_formed_program}
use Rattle.c_rules.proofs.Formed.UnitTypes.{typed_file}

pub well_formed_source : (unit : UnitTree) (file : File) → typed_unit unit ≡ Is file → AreWhole file.functions → All IsName (function_names unit) → IsWithinLimits unit
    → IsProgram (program_tree file)
well_formed_source unit file typed whole named limits =
    well_formed_program file (of_is (typed_unit unit) file (typed_file unit) typed) whole
    (subst (All IsName) (sym (same_names unit file typed)) named)
    (few_objects unit file typed limits.count)

pub well_formed_typed : (unit : UnitTree) (program : ProgramTree) → IsTyped unit program → All IsName (function_names unit) → IsWithinLimits unit → IsProgram program
well_formed_typed unit program typed named limits =
    subst IsProgram (sym typed.tree) (well_formed_source unit typed.file typed.typed typed.whole named limits)
