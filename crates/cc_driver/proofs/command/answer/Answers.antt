use Rattle.cc_driver.specs.Answers.{IsDone, IsRefused}
use Rattle.cc_driver.proofs.CommandLemmas.{comes_status}
use Rattle.cc_driver.proofs.LeftLemmas.{done_leaves, refused_leaves, refused_reliable}
use Rattle.cc_driver.proofs.StatusLemmas.{answer_is, refusal_is, put_is}
use Rattle.cc_driver.proofs.command.answer.Goals as goal

pub returns-in-Ok-clause-answers : goal.returns-in-Ok-clause-answers
returns-in-Ok-clause-answers g c = IsDone _ c.in-Ok.ensures.done c.put.ensures.put

pub returns-in-Ok-clause-status : goal.returns-in-Ok-clause-status
returns-in-Ok-clause-status g c = put_is _ _ _ _ (answer_is _ (comes_status _ _ _ _ c.in-Ok.ensures.done.comes)) c.put.ensures.put

pub returns-in-Ok-clause-leaves : goal.returns-in-Ok-clause-leaves
returns-in-Ok-clause-leaves g c = done_leaves _ _ c.in-Ok.answer _ _ c.in-Ok.ensures.left c.in-Ok.ensures.done c.put.ensures.put

pub returns-in-Ok-clause-shelf_reliable : goal.returns-in-Ok-clause-shelf_reliable
returns-in-Ok-clause-shelf_reliable g c = c.in-Ok.ensures.done.stored.reliable

pub returns-in-Err-clause-answers : goal.returns-in-Err-clause-answers
returns-in-Err-clause-answers g c = IsRefused _ c.in-Err.ensures.refused c.refuse.ensures.put

pub returns-in-Err-clause-status : goal.returns-in-Err-clause-status
returns-in-Err-clause-status g c = refusal_is _ _ _ c.refuse.ensures.put

pub returns-in-Err-clause-leaves : goal.returns-in-Err-clause-leaves
returns-in-Err-clause-leaves g c = refused_leaves _ _ c.in-Err.refusal _ c.in-Err.ensures.left c.in-Err.ensures.refused _ c.refuse.ensures.put

pub returns-in-Err-clause-shelf_reliable : goal.returns-in-Err-clause-shelf_reliable
returns-in-Err-clause-shelf_reliable g c = refused_reliable _ _ _ c.in-Err.ensures.refused
