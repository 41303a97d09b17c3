-- The accumulator code of a program, and the layouts and the plan of its frames.
use Rattle.std.specs.Prelude.{◌≡◌, map}
use Rattle.c_tree.specs.TypedTree.{ProgramTree}
use Rattle.c_tree.specs.WellFormedProgram.{IsProgram}
use Rattle.c_tree.specs.TypedOfWords.{ProgramHasWords}
use Rattle.tree_code.specs.Lowered.{lowered_program}
use Rattle.tree_code.specs.ProgramView.{tree_of}
use Rattle.acc_code.specs.AccView.{functions_of}
use Rattle.image_proof.specs.acc_select.IsSelected.{IsEmittable}
use Rattle.image_proof.specs.acc_select.Selected.{selected}
use Rattle.frame_layouts.specs.mem_plan.Plan.{IsPlan}
use Rattle.frame_layouts.specs.Frames.{AreLayouts, jobs_in, layout_of}
use Rattle.cc_compile.specs.declared.translation.Selection.{Selection}
use Rattle.cc_compile.specs.declared.translation.Planned.{Planned}
use Rattle.cc_compile.specs.Images.{AreJobs}

-- the accumulator code is that of the word tree
pub record IsSelection (s : Selection) : Type 0 where
  pub code : functions_of s.code ≡ selected (tree_of s.tree)
  pub emittable : IsEmittable (tree_of s.tree) (functions_of s.code)

-- and the word tree is that of a typed program
pub record IsSelectionOf (s : Selection) (t : ProgramTree) : Type 0 where
  pub typed : ∥ IsProgram t ∥₁
  pub words : ProgramHasWords t
  pub tree : tree_of s.tree ≡ lowered_program t
  pub code : IsSelection s

-- layouts of its frames, as jobs for its functions found them, and where these lie
pub record IsPlanned (s : Selection) (planned : Planned) : Type 0 where
  pub jobs : AreJobs (jobs_in planned.layouts) (functions_of s.code)
  pub layouts : AreLayouts (functions_of s.code) (jobs_in planned.layouts) planned.layouts
  pub plan : IsPlan (tree_of s.tree) (map layout_of (jobs_in planned.layouts)) planned.plan
