-- What the pieces of a program are emitted from.
use Rattle.std.specs.Prelude.{ℕ, ◌<◌, List}
use Rattle.tree_code.specs.WordTree.{ProgramCode}
use Rattle.tree_code.specs.WellFormedCode.{IsCode}
use Rattle.acc_code.specs.AccTree.{FunctionItems}
use Rattle.acc_select.specs.IsSelected.{IsEmittable}
use Rattle.mem_plan.specs.declared.data_plan.DataPlan.{DataPlan}
use Rattle.mem_plan.specs.Plan.{AreArranged, IsPlan}

-- a program and its accumulator code; the plan of data memory; the lists of each frame; and the step by which AR0 moves a register
pub record Emission : Type 0 where
  pub code : ProgramCode
  pub items : List FunctionItems
  pub plan : DataPlan
  pub arrangements : List (List (List ℕ))
  pub step : ℕ

pub record IsEmission (e : Emission) : Type 0 where
  pub code : IsCode e.code
  pub emittable : IsEmittable e.code e.items
  pub arranged : AreArranged e.code.functions e.arrangements
  pub planned : IsPlan e.code e.arrangements e.plan
  pub step : e.step < 256
