use Rattle.c25_helper.proofs.HelperPieces.{each_answers, each_within, all_help}
use Rattle.c25_helper.proofs.Answering.{called_answer}
use Rattle.c25_helper.proofs.laws.routines_answer.Goals as goal

pub returns : goal.returns
returns c = record { each = each_answers; within = each_within; pieces = all_help; called = called_answer }
