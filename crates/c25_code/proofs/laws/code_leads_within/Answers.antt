use Rattle.c25_code.specs.Accesses.{Accesses}
use Rattle.c25_code.proofs.Accesses.{within_on, runs_within}
use Rattle.c25_code.proofs.AccessRuns.{jump_taken_within, jump_passed_within, call_within, return_within, repeat_within}
use Rattle.c25_code.proofs.Repeats.{may_repeat}
use Rattle.c25_code.proofs.laws.code_leads_within.Goals as goal

pub returns : goal.returns
returns c = record {
  straight = runs_within;
  taken = jump_taken_within;
  passed = jump_passed_within;
  call = call_within;
  back = return_within;
  again = λ may program pc times i w at can ready allowed below. repeat_within may program pc times i w at (may_repeat i can) ready allowed below;
  on = λ may. within_on (Accesses may);
}
