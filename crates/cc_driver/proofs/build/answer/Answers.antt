use Rattle.std.proofs.Common.{ap, subst, ◌∙◌, ◌∷◌, [], List, length, arith}
use Rattle.std.specs.Prelude.{string_bytes}
use Rattle.cc_files.specs.World.{shelves}
use Rattle.cc_driver.specs.Build.{source_file}
use Rattle.cc_driver.specs.BuildTexts.{asked_of, stored_of, answer_of}
use Rattle.cc_files.specs.Stores.{OnlyUnder}
use Rattle.cc_driver.specs.Work.{WorkRefused, AtFetch}
use Rattle.cc_driver.proofs.StoreLemmas.{other_name, still_stored, still_under}
use Rattle.cc_driver.proofs.WorkLemmas.{files_refuse, still_none_failed, stores_refused}
use Rattle.cc_files.proofs.PassedOn.{passed_on}
use Rattle.cc_driver.proofs.build.answer.Goals as goal

pub returns-in_err-source-clause-refused : goal.returns-in_err-source-clause-refused
returns-in_err-source-clause-refused g c =
    passed_on c.from_residual.result c.in_err-source.field-0.0
    (WorkRefused (asked_of c.args.asked.now) (shelves g.F.Shelf.tells (g.F.Shelf.stock c.args.shelf.now) (g.F.Shelf.stock c.fetch.new.shelf)))
    c.from_residual.ensures.1 (AtFetch c.in_err-source.ensures.refused c.in_err-source.ensures.stored)

pub returns-in_err-source-clause-others : goal.returns-in_err-source-clause-others
returns-in_err-source-clause-others g c = λ n other. c.in_err-source.ensures.stored.files n

pub built-requires-clause-short : goal.built-requires-clause-short
built-requires-clause-short g c = λ sync. omega (arith, c.in_ok-source.ensures.fetched.fits, ap length c.deref.ensures.value)

pub returns-in_err-texts-clause-refused : goal.returns-in_err-texts-clause-refused
returns-in_err-texts-clause-refused g c =
    let what = asked_of c.args.asked.now in
    let shelf = shelves g.F.Shelf.tells (g.F.Shelf.stock c.args.shelf.now) (g.F.Shelf.stock c.fetch.new.shelf) in
    let has = rw c.deref.ensures.value at c.in_err-texts.ensures.refused in
    passed_on c.from_residual-in_err-texts.result c.in_err-texts.field-0.0 (WorkRefused what shelf) c.from_residual-in_err-texts.ensures.1
    (files_refuse what shelf _ c.in_ok-source.ensures.asked ((c.in_ok-source.source.items, c.in_ok-source.ensures.fetched), tt {0}) c.in_ok-source.ensures.stored
    (λ some. record { bytes = c.in_ok-source.source.items; fetched = c.in_ok-source.ensures.fetched; holds = has some }))

pub returns-in_err-texts-clause-others : goal.returns-in_err-texts-clause-others
returns-in_err-texts-clause-others g c = λ n other. c.in_ok-source.ensures.stored.files n

pub store_texts-requires : goal.store_texts-requires
store_texts-requires g c = λ e. other_name c.args.asked.now.image.now (e ∙ c.in_ok-texts.ensures.name)

pub returns-in_err-store_texts-clause-refused : goal.returns-in_err-store_texts-clause-refused
returns-in_err-store_texts-clause-refused g c =
    let what = asked_of c.args.asked.now in
    let tells = g.F.Shelf.tells in
    let first = g.F.Shelf.stock c.args.shelf.now in
    let between = g.F.Shelf.stock c.fetch.new.shelf in
    let last = g.F.Shelf.stock c.store_texts.new.shelf in
    let image = c.args.asked.now.image.now in
    let built = rw c.deref.ensures.value at c.in_ok-texts.ensures.built in
    passed_on c.from_residual-in_err-store_texts.result c.in_err-store_texts.field-0.0 (WorkRefused what (shelves tells first last)) c.from_residual-in_err-store_texts.ensures.1
    (stores_refused tells first between last what (answer_of c.in_ok-texts.texts) (stored_of image c.in_ok-texts.texts) _ c.in_ok-source.ensures.asked c.in_ok-source.ensures.stored c.store_texts.ensures.asked
    (record {
      bytes = c.in_ok-source.source.items;
      fetched = record { told = c.in_ok-source.ensures.fetched.told; fits = c.in_ok-source.ensures.fetched.fits };
      holds = built;
    }) c.in_err-store_texts.ensures.refused)

pub returns-in_err-store_texts-clause-others : goal.returns-in_err-store_texts-clause-others
returns-in_err-store_texts-clause-others g c =
    subst (λ (name : List _). OnlyUnder (c.args.asked.now.image.now ∷ name ∷ []) (shelves g.F.Shelf.tells (g.F.Shelf.stock c.args.shelf.now) (g.F.Shelf.stock c.store_texts.new.shelf))) c.in_ok-texts.ensures.name
    (still_under g.F.Shelf.tells (g.F.Shelf.stock c.args.shelf.now) (g.F.Shelf.stock c.fetch.new.shelf) (g.F.Shelf.stock c.store_texts.new.shelf) c.in_ok-source.ensures.stored (c.args.asked.now.image.now ∷ string_bytes c.in_ok-texts.texts.name ∷ []) c.store_texts.ensures.others)

pub returns-clause-others : goal.returns-clause-others
returns-clause-others g c =
    subst (λ (name : List _). OnlyUnder (c.args.asked.now.image.now ∷ name ∷ []) (shelves g.F.Shelf.tells (g.F.Shelf.stock c.args.shelf.now) (g.F.Shelf.stock c.store_texts.new.shelf))) c.in_ok-texts.ensures.name
    (still_under g.F.Shelf.tells (g.F.Shelf.stock c.args.shelf.now) (g.F.Shelf.stock c.fetch.new.shelf) (g.F.Shelf.stock c.store_texts.new.shelf) c.in_ok-source.ensures.stored (c.args.asked.now.image.now ∷ string_bytes c.in_ok-texts.texts.name ∷ []) c.store_texts.ensures.others)

pub returns-clause-done : goal.returns-clause-done
returns-clause-done g c =
    let tells = g.F.Shelf.tells in
    let first = g.F.Shelf.stock c.args.shelf.now in
    let between = g.F.Shelf.stock c.fetch.new.shelf in
    let last = g.F.Shelf.stock c.store_texts.new.shelf in
    let built = rw c.deref.ensures.value at c.in_ok-texts.ensures.built in
    record {
      fetched = still_none_failed tells first between last (source_file c.args.asked.now.source.now ∷ []) c.in_ok-source.ensures.asked c.store_texts.ensures.asked;
      texts = stored_of c.args.asked.now.image.now c.in_ok-texts.texts;
      comes = record {
        bytes = c.in_ok-source.source.items;
        fetched = record { told = c.in_ok-source.ensures.fetched.told; fits = c.in_ok-source.ensures.fetched.fits };
        holds = built;
      };
      stored = still_stored tells first between last c.in_ok-source.ensures.stored _ c.in_ok-store_texts.ensures.stored;
    }
