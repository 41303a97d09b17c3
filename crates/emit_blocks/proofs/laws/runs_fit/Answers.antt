use Rattle.emit_blocks.proofs.Rightness.{emittable_right, emittable_behind, none_behind}
use Rattle.emit_blocks.proofs.laws.runs_fit.Goals as goal

pub returns-clause-emittable : goal.returns-clause-emittable
returns-clause-emittable c = emittable_right

pub returns-clause-behind : goal.returns-clause-behind
returns-clause-behind c = emittable_behind

pub returns-clause-none_behind : goal.returns-clause-none_behind
returns-clause-none_behind c = none_behind
