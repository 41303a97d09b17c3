use Rattle.std.proofs.Common.{[], refl}
use Rattle.std.proofs.lemmas.Result.{IfOk-weaker, IfErr-weaker}
use Rattle.cc_words.specs.Asked.{ToDebug}
use Rattle.cc_files.specs.World.{shelves}
use Rattle.cc_driver.proofs.StoreLemmas.{none_stored}
use Rattle.cc_driver.proofs.WorkLemmas.{files_refuse}
use Rattle.cc_driver.proofs.debug.answer.Goals as goal

pub returns-clause-done : goal.returns-clause-done
returns-clause-done g c =
    IfOk-weaker c.debug.result _ _ (λ a holds. record {
      fetched = c.in_ok-files.ensures.asked;
      texts = [];
      comes = (
        record {
          bytes = c.in_ok-files.files.first.items;
          more = c.in_ok-files.files.second.items;
          last = c.in_ok-files.files.third.items;
          fetched = c.in_ok-files.ensures.first;
          also = c.in_ok-files.ensures.second;
          too = c.in_ok-files.ensures.third;
          holds = holds;
        },
        refl,
      );
      stored = none_stored _ _ _ c.in_ok-files.ensures.stored;
    }) c.debug.ensures.done

pub returns-clause-refused : goal.returns-clause-refused
returns-clause-refused g c =
    IfErr-weaker c.debug.result _ _ (λ r refused.
    files_refuse (ToDebug c.args.asked.now.image.now c.args.asked.now.ports.now c.args.asked.now.script.now) (shelves g.F.Shelf.tells (g.F.Shelf.stock c.args.shelf.now) (g.F.Shelf.stock c.fetch_three.new.shelf)) _
    c.in_ok-files.ensures.asked
    ((c.in_ok-files.files.first.items, c.in_ok-files.ensures.first), ((c.in_ok-files.files.second.items, c.in_ok-files.ensures.second), ((c.in_ok-files.files.third.items, c.in_ok-files.ensures.third), tt {0})))
    c.in_ok-files.ensures.stored
    (λ some. record {
      bytes = c.in_ok-files.files.first.items;
      more = c.in_ok-files.files.second.items;
      last = c.in_ok-files.files.third.items;
      fetched = c.in_ok-files.ensures.first;
      also = c.in_ok-files.ensures.second;
      too = c.in_ok-files.ensures.third;
      holds = refused some;
    })) c.debug.ensures.refused
