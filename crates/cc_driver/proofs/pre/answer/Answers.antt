use Rattle.std.proofs.Common.{◌∷◌, [], length, ap, refl, arith}
use Rattle.cc_words.specs.Asked.{ToExpand}
use Rattle.cc_files.specs.World.{shelves}
use Rattle.cc_files.specs.Stores.{Stored}
use Rattle.cc_driver.specs.Texts.{one_text, silent_answer}
use Rattle.cc_driver.specs.Build.{source_file}
use Rattle.cc_driver.specs.Work.{WorkRefused}
use Rattle.cc_driver.proofs.StoreLemmas.{stopped_at_first, still_stored}
use Rattle.cc_driver.proofs.WorkLemmas.{files_refuse, still_none_failed, stores_refused}
use Rattle.cc_files.proofs.PassedOn.{passed_on}
use Rattle.cc_driver.proofs.pre.answer.Goals as goal

pub expanded-requires : goal.expanded-requires
expanded-requires g c = omega (arith, c.in_ok-source.ensures.fetched.fits, ap length c.deref.ensures.value)

pub returns-in_err-store-clause-refused : goal.returns-in_err-store-clause-refused
returns-in_err-store-clause-refused g c =
    let what = ToExpand c.args.asked.now.source.now c.args.asked.now.output.now in
    let tells = g.F.Shelf.tells in
    let first = g.F.Shelf.stock c.args.shelf.now in
    let between = g.F.Shelf.stock c.fetch.new.shelf in
    let last = g.F.Shelf.stock c.store.new.shelf in
    let output = c.args.asked.now.output.now in
    let text = c.in_ok-text.text.items in
    let one : Stored = record { name = output; text = text } in
    let expansion = rw c.deref.ensures.value at c.in_ok-text.ensures.done in
    passed_on c.from_residual-in_err-store.result c.in_err-store.field-0.0 (WorkRefused what (shelves tells first last)) c.from_residual-in_err-store.ensures.1
    (stores_refused tells first between last what silent_answer (one_text output text) _ c.in_ok-source.ensures.asked c.in_ok-source.ensures.stored c.store.ensures.asked
    (record {
      bytes = c.in_ok-source.source.items;
      fetched = record { told = c.in_ok-source.ensures.fetched.told; fits = c.in_ok-source.ensures.fetched.fits };
      holds = expansion;
    }) (stopped_at_first tells between last one [] c.store.ensures.others _ c.in_err-store.ensures.refused))

pub returns-clause-done : goal.returns-clause-done
returns-clause-done g c =
    let tells = g.F.Shelf.tells in
    let first = g.F.Shelf.stock c.args.shelf.now in
    let between = g.F.Shelf.stock c.fetch.new.shelf in
    let last = g.F.Shelf.stock c.store.new.shelf in
    let output = c.args.asked.now.output.now in
    let text = c.in_ok-text.text.items in
    record {
      fetched = still_none_failed tells first between last (source_file c.args.asked.now.source.now ∷ []) c.in_ok-source.ensures.asked c.store.ensures.asked;
      texts = one_text output text;
      comes = record {
        bytes = c.in_ok-source.source.items;
        fetched = record { told = c.in_ok-source.ensures.fetched.told; fits = c.in_ok-source.ensures.fetched.fits };
        holds = rw c.deref.ensures.value at c.in_ok-text.ensures.done;
      };
      stored = still_stored tells first between last c.in_ok-source.ensures.stored (one_text output text) (rw c.deref-2.ensures.value at c.in_ok-store.ensures.stored);
    }
