-- A plan has objects at places that are apart, there lowering and selection keep runs, and what is kept behind what is kept is kept.
use Rattle.tree_code.specs.Lowered.{lowered_program}
use Rattle.acc_select.specs.Selected.{selected}
use Rattle.ir_semantics.specs.Keeps.{tree_run, acc_run}
use Rattle.ir_semantics.specs.SourceWork.{worked_run}
use Rattle.image_proof.specs.PlanPlaces.{places_of}
use Rattle.ir_semantics.proofs.Keeping.{kept_of_kept}
use Rattle.image_proof.proofs.Placing.{plan_far, plan_places}
use Rattle.image_proof.proofs.run_laws.translation_keeps_runs.Goals as goal

pub returns-clause-places : goal.returns-clause-places
returns-clause-places c = λ t arrangements plan is arranged planned.
    let laws = c.plans_keep_apart.ensures in
    plan_places t arrangements plan arranged planned (laws.within (lowered_program t) arrangements plan arranged planned) (laws.apart (lowered_program t) arrangements plan arranged planned) is

pub returns-clause-far : goal.returns-clause-far
returns-clause-far c = λ t arrangements plan arranged planned.
    plan_far t arrangements plan arranged planned (c.plans_keep_apart.ensures.within (lowered_program t) arrangements plan arranged planned)

pub returns-clause-keeps : goal.returns-clause-keeps
returns-clause-keeps c = λ t arrangements plan input n is words arranged planned inputs.
    let laws = c.plans_keep_apart.ensures in
    let within = laws.within (lowered_program t) arrangements plan arranged planned in
    let places = plan_places t arrangements plan arranged planned within (laws.apart (lowered_program t) arrangements plan arranged planned) is in
    let far = plan_far t arrangements plan arranged planned within in
    kept_of_kept (worked_run t input n) (tree_run (places_of plan) (lowered_program t) input n) (acc_run (places_of plan) (lowered_program t) (selected (lowered_program t)) input n)
    (c.lowering_keeps_runs.ensures.keeps (places_of plan) t input n is words places inputs)
    (c.typed_programs_keep.ensures.keeps (places_of plan) t input n is words far inputs)
