use Rattle.std.proofs.Common.{◌≡◌, ◌++◌, ◌<◌, ℕ, drop, get_or}
use Rattle.c25_image.specs.OutsText.{IsOut, outs_text}
use Rattle.c25_image.proofs.writing.write_outs.Given as goal

abbrev pub invariant-loop-out : goal.invariant-loop-out
invariant-loop-out l = record {
  text : l.text.items ++ outs_text (drop l.out-index l.outs) ≡ outs_text l.outs;
  each : (k : ℕ) → k < l.out-index → IsOut (get_or l.outs k (0, 0));
}
