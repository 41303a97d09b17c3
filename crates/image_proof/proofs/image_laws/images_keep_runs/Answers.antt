-- From the startup over the calls of the program to its end.
use Rattle.std.proofs.Common.{arith}
use Rattle.std.specs.Prelude.{[]}
use Rattle.image_proof.proofs.Whole.{machine_keeps}
use Rattle.image_proof.proofs.image_laws.images_keep_runs.Goals as goal

pub returns : goal.returns
returns c = record {
  keeps = λ e routines image b input n is usable words answers linked ranges small starts begins given.
      let laws = c.calls_stand.ensures in
      machine_keeps e is usable words c.code_meets.ensures.bodies routines answers image linked ranges small b starts begins input given n
      (λ g active kept code ret v w are keeps there beside low. laws.enters e g active kept [] code ret v w is are keeps there beside low (omega arith))
      (record {
        returned = λ g active kept held code ret v t w u are keeps there beside inner. laws.leaves e g active kept [] held code ret v t w u is are keeps there beside inner;
        ended = λ g active kept held code ret v t w u are keeps there beside inner. laws.leaves_gone e g active kept [] held code ret v t w u is are keeps there beside inner;
      });
}
