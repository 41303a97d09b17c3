use Rattle.c25_code.proofs.Calm.{at_its_modes}
use Rattle.c25_code.proofs.CodeRuns.{runs_lead_at, input_ends_at, part_leads_at}
use Rattle.c25_code.proofs.Jumps.{branch_leads_at, call_leads_at, return_leads_at, idle_ends_at}
use Rattle.c25_code.proofs.laws.code_leads_at_modes.Goals as goal

pub returns : goal.returns
returns c = record {
  each = at_its_modes;
  leads = runs_lead_at;
  ends = input_ends_at;
  part = part_leads_at;
  branch = branch_leads_at;
  call = call_leads_at;
  back = return_leads_at;
  end = idle_ends_at;
}
