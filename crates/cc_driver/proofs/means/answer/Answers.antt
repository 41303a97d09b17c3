use Rattle.std.proofs.Common.{[], refl}
use Rattle.std.proofs.lemmas.Result.{IfOk-weaker, IfErr-weaker}
use Rattle.cc_words.specs.Asked.{ToEvaluate}
use Rattle.cc_files.specs.World.{shelves}
use Rattle.cc_driver.proofs.StoreLemmas.{none_stored}
use Rattle.cc_driver.proofs.WorkLemmas.{files_refuse}
use Rattle.cc_driver.proofs.means.answer.Goals as goal

pub returns-clause-done : goal.returns-clause-done
returns-clause-done g c =
    IfOk-weaker c.evaluated.result _ _ (λ a holds. record {
      fetched = c.in_ok-files.ensures.asked;
      texts = [];
      comes = (
        record {
          bytes = c.in_ok-files.files.bytes.items;
          more = c.in_ok-files.files.more.items;
          fetched = c.in_ok-files.ensures.file;
          also = c.in_ok-files.ensures.other;
          holds = holds;
        },
        refl,
      );
      stored = none_stored _ _ _ c.in_ok-files.ensures.stored;
    }) c.evaluated.ensures.done

pub returns-clause-refused : goal.returns-clause-refused
returns-clause-refused g c =
    IfErr-weaker c.evaluated.result _ _ (λ r refused.
    files_refuse (ToEvaluate c.args.asked.now.source.now c.args.asked.now.ports.now c.args.asked.now.turns) (shelves g.F.Shelf.tells (g.F.Shelf.stock c.args.shelf.now) (g.F.Shelf.stock c.fetch_both.new.shelf)) _
    c.in_ok-files.ensures.asked ((c.in_ok-files.files.bytes.items, c.in_ok-files.ensures.file), ((c.in_ok-files.files.more.items, c.in_ok-files.ensures.other), tt {0})) c.in_ok-files.ensures.stored
    (λ some. record {
      bytes = c.in_ok-files.files.bytes.items;
      more = c.in_ok-files.files.more.items;
      fetched = c.in_ok-files.ensures.file;
      also = c.in_ok-files.ensures.other;
      holds = refused some;
    })) c.evaluated.ensures.refused
