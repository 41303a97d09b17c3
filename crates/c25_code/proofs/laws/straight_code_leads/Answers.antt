use Rattle.c25_code.proofs.CodeRuns.{runs_lead, input_ends, part_leads}
use Rattle.c25_code.proofs.Ranges.{behind_instr-fits}
use Rattle.c25_code.proofs.laws.straight_code_leads.Goals as goal

pub returns : goal.returns
returns c = record { leads = runs_lead; ends = input_ends; part = part_leads; ranges = behind_instr-fits }
