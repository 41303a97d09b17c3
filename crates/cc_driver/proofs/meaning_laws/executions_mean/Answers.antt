use Rattle.std.proofs.Math.Logic.{∥∥₁_map}
use Rattle.cc_driver.proofs.MeaningLemmas.{ends_so, goes_on_so, undefined_so}
use Rattle.cc_driver.proofs.meaning_laws.executions_mean.Goals as goal

pub returns : goal.returns
returns c = record {
  ends = λ source ports steps turns executed meant e m zero. ∥∥₁_map e.built.agrees (ends_so source ports steps turns executed meant e m zero);
  goes_on = λ source ports steps turns executed meant e m six. ∥∥₁_map e.built.agrees (goes_on_so source ports steps turns executed meant e m six);
  undefined = λ source ports steps turns executed meant e m ten. ∥∥₁_map e.built.agrees (undefined_so source ports steps turns executed meant e m ten);
}
