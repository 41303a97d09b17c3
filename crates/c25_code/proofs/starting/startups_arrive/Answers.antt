use Rattle.c25_code.proofs.Startups.{startup_marks_fit, first_stands, startup_arrives}
use Rattle.c25_code.proofs.starting.startups_arrive.Goals as goal

pub returns : goal.returns
returns c = record {
  arrives = startup_arrives;
  first = first_stands;
  marks = startup_marks_fit;
}
