use Rattle.std.proofs.Common.{◌+◌, ap}
use Rattle.c_units.specs.Views.{tree_of}
use Rattle.c_units.proofs.CountLemmas.{text_turn}
use Rattle.c_units.proofs.joining.joined.Goals as goal

pub loop-named-preserved : goal.loop-named-preserved
loop-named-preserved c =
    let number = c.loop-named.invariant.number in
    record {
      number = ap (λ n. n + 1) number;
      text = text_turn tree_of (c.loop-named.named-index + 1) _ _ _ c.args.files.now c.loop-named.named-index c.named-item.result c.named-item.is c.loop-named-test.true c.loop-named.invariant.text
          (rw number at c.in_ok-push_file.ensures);
    }
