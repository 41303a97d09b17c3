use Rattle.std.proofs.Common.{map}
use Rattle.acc_code.specs.AccTree.{FunctionItems}
use Rattle.frame_emit.specs.Frames.{all_parameters}
use Rattle.frame_emit.proofs.Naming.{all_listed, their_names, no_name}
use Rattle.frame_emit.proofs.laws.pieces_are_right.Goals as goal

pub returns-clause-no_name : goal.returns-clause-no_name
returns-clause-no_name c = no_name

pub returns-clause-listed : goal.returns-clause-listed
returns-clause-listed c = λ p gs plan arrangements step.
    all_listed plan step (all_parameters p.functions plan.frames arrangements) (map (λ (g : FunctionItems). g.name) gs) p.functions gs plan.frames arrangements

pub returns-clause-names : goal.returns-clause-names
returns-clause-names c = λ p gs plan arrangements step is.
    their_names plan step (all_parameters p.functions plan.frames arrangements) (map (λ (g : FunctionItems). g.name) gs) p.functions gs plan.frames arrangements is.functions is.frames is.lists
