use Rattle.std.proofs.Common.{◌+◌, ap}
use Rattle.c_units.specs.Views.{tree_of}
use Rattle.c_units.proofs.ObjectLemmas.{file_turn}
use Rattle.c_units.proofs.objects.declared.Goals as goal

pub loop-file-preserved : goal.loop-file-preserved
loop-file-preserved c =
    let number = c.loop-file.invariant.number in
    record {
      number = ap (λ n. n + 1) number;
      objects = file_turn tree_of (c.loop-file.file-index + 1) _ _ _ c.args.files.now c.loop-file.file-index c.file-item.result c.file-item.is c.loop-file-test.true c.loop-file.invariant.objects
          (rw number at c.in_ok-push_file.ensures);
    }
