-- Where the startup of a program arrives from a reset: at the call of `main`, with the static objects in data memory.
use Rattle.std.specs.Prelude.{◌≡◌, ◌≤◌, ℕ, ◌+◌, ◌*◌, true, []}
use Rattle.word_base.specs.Ports.{Input}
use Rattle.c25_isa.specs.State.{Start}
use Rattle.c25_code.specs.Work.{Work, InRange}
use Rattle.c25_code.specs.Startups.{StartupArrives}
use Rattle.tree_code.specs.WordTree.{ProgramCode}
use Rattle.mem_plan.specs.declared.data_plan.DataPlan.{DataPlan}
use Rattle.ir_semantics.specs.Outside.{Holds, first_outside}
use Rattle.image_proof.specs.PlanPlaces.{places_of}
use Rattle.frame_emit.specs.Startup.{static_words}

-- in few steps for each word of the static objects, with an empty hardware stack, the whole input, and sign extension; each word that a run
-- finds in memory at first lies at its address
pub record StartsRight (b : Start) (given : Input) (p : ProgramCode) (plan : DataPlan) (entry : ℕ) : Type 0 where
  pub steps : ℕ
  pub work : Work
  pub arrives : StartupArrives b given entry steps work
  pub few : steps ≤ 100 + 16 * static_words p.statics
  pub range : InRange work
  pub stack : work.stack ≡ []
  pub input : work.input ≡ given
  pub sxm : work.sxm ≡ true
  pub ram : (a x : ℕ) → (first_outside (places_of plan) p.statics given).memory a ≡ Holds x → work.ram a ≡ x
