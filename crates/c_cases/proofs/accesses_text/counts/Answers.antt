use Rattle.std.proofs.Common.{subst, sym}
use Rattle.acc_code.specs.AccSequence.{IsInFrame}
use Rattle.acc_code.specs.AccView.{function_items_of}
use Rattle.c_cases.proofs.accesses_text.counts.Goals as goal

pub function_counts-requires : goal.function_counts-requires
function_counts-requires c = record {
  in_frame = subst (λ f. IsInFrame (function_items_of f)) (sym c.f-item.is) (c.requires.in_frame c.loop-f.f-index c.f-item.result c.loop-f-test.true);
}
