-- The accumulator code keeps the program's runs, and the machine those of the code.
use Rattle.std.proofs.Common.{ℕ, ◌<◌, ◌+◌, ◌*◌, List}
use Rattle.c_tree.specs.SourceRun.{source_run}
use Rattle.c_tree.specs.TypedTree.{ProgramTree}
use Rattle.c_tree.specs.WellFormedProgram.{IsProgram}
use Rattle.tree_code.specs.Lowered.{lowered_program}
use Rattle.c_tree.specs.TypedOfWords.{ProgramHasWords}
use Rattle.acc_select.specs.IsSelected.{IsEmittable}
use Rattle.acc_select.specs.Selected.{selected}
use Rattle.mem_plan.specs.declared.data_plan.DataPlan.{DataPlan}
use Rattle.mem_plan.specs.Plan.{AreArranged, IsPlan}
use Rattle.c25_isa.specs.MachineRun.{machine_run}
use Rattle.ir_semantics.specs.Keeps.{acc_run}
use Rattle.ir_semantics.specs.SourceWork.{source_work, worked_run}
use Rattle.frame_emit.specs.Startup.{static_words}
use Rattle.image_proof.specs.PlanPlaces.{places_of}
use Rattle.image_proof.specs.Emissions.{IsEmission}
use Rattle.image_proof.specs.Agreeing.{emission_of}
use Rattle.image_proof.specs.Keeping.{AreUsable}
use Rattle.image_proof.proofs.Agreeing.{agrees_at, in_time}
use Rattle.image_proof.proofs.image_laws.images_agree.Goals as goal

pub returns : goal.returns
returns c =
    let laws = c.translation_keeps_runs.ensures in
    let emission : (t : ProgramTree) (plan : DataPlan) (arrangements : List (List (List ℕ))) (step : ℕ) → IsProgram t → ProgramHasWords t → AreArranged (lowered_program t).functions arrangements → IsPlan (lowered_program t) arrangements plan
    → IsEmittable (lowered_program t) (selected (lowered_program t)) → step < 256 → IsEmission (emission_of t plan arrangements step) =
    λ t plan arrangements step is words arranged planned emittable low.
    record {
      code = (c.typed_programs_keep.ensures.of_words (places_of plan) t is words (laws.far t arrangements plan arranged planned)).code;
      emittable = emittable;
      arranged = arranged;
      planned = planned;
      step = low;
    } in
    let usable : (t : ProgramTree) (plan : DataPlan) (arrangements : List (List (List ℕ))) (step : ℕ) → IsProgram t → ProgramHasWords t → AreUsable (emission_of t plan arrangements step) =
    λ t plan arrangements step is words. record { by = λ k g there. c.selected_is_usable.ensures.usable t k g is words there } in
    record {
      agree = λ t plan arrangements step routines image is words arranged planned emittable low answers linked ranges small.
          λ b input starts begins given.
          agrees_at (source_run t input) (source_work t input) (λ n. acc_run (places_of plan) (lowered_program t) (selected (lowered_program t)) input n) (machine_run b input) (1000 + 16 * static_words t.statics)
          (λ n. laws.keeps t arrangements plan input n is words arranged planned given)
          (λ n. c.images_keep_runs.ensures.keeps (emission_of t plan arrangements step) routines image b input n (emission t plan arrangements step is words arranged planned emittable low) (usable t plan arrangements step is words) words.statics answers linked ranges small starts begins given);
      in_time = λ t plan arrangements step routines image is words arranged planned emittable low answers linked ranges small.
          λ b input n outs ending work starts begins given ended.
          in_time (worked_run t input n) (acc_run (places_of plan) (lowered_program t) (selected (lowered_program t)) input n) (machine_run b input) n (1000 + 16 * static_words t.statics)
          (laws.keeps t arrangements plan input n is words arranged planned given)
          (c.images_keep_runs.ensures.keeps (emission_of t plan arrangements step) routines image b input n (emission t plan arrangements step is words arranged planned emittable low) (usable t plan arrangements step is words) words.statics answers linked ranges small starts begins given)
          outs ending work ended;
    }
