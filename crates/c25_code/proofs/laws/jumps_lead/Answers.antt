use Rattle.c25_code.proofs.Calm.{calmed}
use Rattle.c25_code.proofs.Jumps.{branch_leads, call_leads, return_leads, calm_idle_ends}
use Rattle.c25_code.proofs.laws.jumps_lead.Goals as goal

pub returns : goal.returns
returns c = record { branch = branch_leads; call = call_leads; back = return_leads; end = calm_idle_ends; calms = calmed }
