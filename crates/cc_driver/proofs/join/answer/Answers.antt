use Rattle.std.proofs.Common.{[]}
use Rattle.cc_words.specs.Asked.{ToJoin, names_of}
use Rattle.cc_files.specs.World.{shelves}
use Rattle.cc_files.specs.Wants.{contents_of}
use Rattle.cc_files.specs.Stores.{Stored}
use Rattle.cc_driver.specs.Texts.{one_text, silent_answer}
use Rattle.cc_driver.specs.Commands.{files_of}
use Rattle.cc_driver.specs.Work.{WorkRefused}
use Rattle.cc_driver.proofs.StoreLemmas.{stopped_at_first, still_stored}
use Rattle.cc_driver.proofs.WorkLemmas.{files_refuse, still_none_failed, stores_refused}
use Rattle.cc_files.proofs.FetchLemmas.{with_bytes, fetched_still}
use Rattle.cc_files.proofs.PassedOn.{passed_on}
use Rattle.cc_driver.proofs.join.answer.Goals as goal

pub returns-in_err-store-clause-refused : goal.returns-in_err-store-clause-refused
returns-in_err-store-clause-refused g c =
    let what = ToJoin c.args.asked.now.output.now (names_of c.args.asked.now.sources) in
    let tells = g.F.Shelf.tells in
    let first = g.F.Shelf.stock c.args.shelf.now in
    let between = g.F.Shelf.stock c.fetched.new.shelf in
    let last = g.F.Shelf.stock c.store.new.shelf in
    let output = c.args.asked.now.output.now in
    let text = c.in_ok-text.text.items in
    let one : Stored = record { name = output; text = text } in
    let joined = rw c.deref.ensures.value at c.in_ok-text.ensures.done in
    passed_on c.from_residual-in_err-store.result c.in_err-store.field-0.0 (WorkRefused what (shelves tells first last)) c.from_residual-in_err-store.ensures.1
    (stores_refused tells first between last what silent_answer (one_text output text) _ c.in_ok-sources.ensures.asked c.in_ok-sources.ensures.stored c.store.ensures.asked
    (record {
      contents = contents_of c.in_ok-sources.sources.items;
      fetched = fetched_still tells first between last (files_of what) (contents_of c.in_ok-sources.sources.items) c.in_ok-sources.ensures.fetched;
      holds = joined;
    }) (stopped_at_first tells between last one [] c.store.ensures.others _ c.in_err-store.ensures.refused))

pub returns-in_err-text-clause-refused : goal.returns-in_err-text-clause-refused
returns-in_err-text-clause-refused g c =
    let what = ToJoin c.args.asked.now.output.now (names_of c.args.asked.now.sources) in
    let shelf = shelves g.F.Shelf.tells (g.F.Shelf.stock c.args.shelf.now) (g.F.Shelf.stock c.fetched.new.shelf) in
    let contents = contents_of c.in_ok-sources.sources.items in
    passed_on c.from_residual-in_err-text.result c.in_err-text.field-0.0 (WorkRefused what shelf) c.from_residual-in_err-text.ensures.1
    (files_refuse what shelf _ c.in_ok-sources.ensures.asked (with_bytes shelf (files_of what) contents c.in_ok-sources.ensures.fetched) c.in_ok-sources.ensures.stored
    (λ some. record {
      contents = contents;
      fetched = c.in_ok-sources.ensures.fetched;
      holds = rw c.deref.ensures.value at (c.in_err-text.ensures.refused some);
    }))

pub returns-clause-done : goal.returns-clause-done
returns-clause-done g c =
    let what = ToJoin c.args.asked.now.output.now (names_of c.args.asked.now.sources) in
    let tells = g.F.Shelf.tells in
    let first = g.F.Shelf.stock c.args.shelf.now in
    let between = g.F.Shelf.stock c.fetched.new.shelf in
    let last = g.F.Shelf.stock c.store.new.shelf in
    let output = c.args.asked.now.output.now in
    let text = c.in_ok-text.text.items in
    let contents = contents_of c.in_ok-sources.sources.items in
    record {
      fetched = still_none_failed tells first between last (files_of what) c.in_ok-sources.ensures.asked c.store.ensures.asked;
      texts = one_text output text;
      comes = record {
        contents = contents;
        fetched = fetched_still tells first between last (files_of what) contents c.in_ok-sources.ensures.fetched;
        holds = rw c.deref.ensures.value at c.in_ok-text.ensures.done;
      };
      stored = still_stored tells first between last c.in_ok-sources.ensures.stored (one_text output text) (rw c.deref-2.ensures.value at c.in_ok-store.ensures.stored);
    }
