use Rattle.std.proofs.Common.{◌++◌, ◌∷◌, [], take, ◌∙◌, ap, sym}
use Rattle.std.proofs.lemmas.List.{take_more}
use Rattle.tree_code.proofs.WordsLemmas.{initial_used}
use Rattle.tree_code.proofs.copies.copied_initial.Goals as goal

pub loop-x-preserved : goal.loop-x-preserved
loop-x-preserved c = record {
  copy = c.in_ok-push.ensures.items ∙ ap (λ l. l ++ c.initial.result ∷ []) c.loop-x.invariant.copy ∙ ap (λ y. take c.loop-x.x-index c.args.list.now ++ y ∷ []) c.initial.ensures.copy
      ∙ sym (take_more c.args.list.now c.loop-x.x-index _ c.loop-x-test.true);
  words = initial_used c.args.list.now c.loop-x.x-index _ c.loop-x-test.true c.loop-x.invariant.words c.initial.ensures.words;
}
