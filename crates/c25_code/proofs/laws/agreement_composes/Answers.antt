use Rattle.std.proofs.Common.{◌≤◌, arith}
use Rattle.c25_isa.specs.Agrees.{any_number, at_most}
use Rattle.c25_code.proofs.Agreement.{ends_kept, goes_on_kept, undefined_kept, agrees_kept, all_kept, ends_within}
use Rattle.c25_code.proofs.laws.agreement_composes.Goals as goal

pub returns : goal.returns
returns c = record {
  ends = λ most. ends_kept (at_most most);
  goes_on = goes_on_kept;
  undefined = undefined_kept;
  all = agrees_kept;
  everywhere = all_kept;
  wider = λ few most run machine less. ends_within (at_most few) (at_most most) run machine (λ n outs ending e m le. let more : few n ≤ most n = less n outs ending e in omega arith);
  any = λ most run machine. ends_within (at_most most) any_number run machine (λ n outs ending e m le. tt {0});
}
