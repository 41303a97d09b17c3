use Rattle.frame_emit.proofs.Naming.{statics_fit, few_lists, all_right, counted}
use Rattle.frame_emit.proofs.laws.plans_are_enough.Goals as goal

pub returns-clause-statics : goal.returns-clause-statics
returns-clause-statics c = statics_fit

pub returns-clause-lists : goal.returns-clause-lists
returns-clause-lists c = few_lists

pub returns-clause-right : goal.returns-clause-right
returns-clause-right c = all_right

pub returns-clause-counted : goal.returns-clause-counted
returns-clause-counted c = counted
