-- What the pieces of typed programs are emitted from, and when their images end in time.
use Rattle.std.specs.Prelude.{ℕ, List}
use Rattle.c_tree.specs.TypedTree.{ProgramTree}
use Rattle.tree_code.specs.Lowered.{lowered_program}
use Rattle.acc_select.specs.Selected.{selected}
use Rattle.mem_plan.specs.declared.data_plan.DataPlan.{DataPlan}
use Rattle.image_proof.specs.Emissions.{Emission}
pub use Rattle.image_proof.specs.InTime.{EndsInTime}

-- what the pieces of a typed program are emitted from
abbrev pub emission_of : ProgramTree → DataPlan → List (List (List ℕ)) → ℕ → Emission
emission_of t plan arrangements step = record { code = lowered_program t; items = selected (lowered_program t); plan = plan; arrangements = arrangements; step = step }
