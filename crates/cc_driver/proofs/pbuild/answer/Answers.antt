use Rattle.std.proofs.Common.{subst, ◌∙◌, ◌∷◌, [], List}
use Rattle.std.specs.Prelude.{string_bytes}
use Rattle.cc_files.specs.World.{shelves}
use Rattle.cc_driver.specs.Build.{source_file}
use Rattle.cc_driver.specs.BuildTexts.{stored_of, answer_of}
use Rattle.cc_driver.specs.ProfileTexts.{asked_of}
use Rattle.cc_driver.specs.Run.{image_file, ports_file}
use Rattle.cc_files.specs.Stores.{OnlyUnder}
use Rattle.cc_driver.specs.Work.{WorkRefused, AtFetch}
use Rattle.cc_driver.proofs.StoreLemmas.{other_weighted_name, still_stored, still_under}
use Rattle.cc_driver.proofs.WorkLemmas.{files_refuse, still_none_failed, stores_refused}
use Rattle.cc_files.proofs.PassedOn.{passed_on}
use Rattle.cc_driver.proofs.pbuild.answer.Goals as goal

pub returns-in_err-files-clause-refused : goal.returns-in_err-files-clause-refused
returns-in_err-files-clause-refused g c =
    passed_on c.from_residual.result c.in_err-files.field-0.0
    (WorkRefused (asked_of c.args.asked.now) (shelves g.F.Shelf.tells (g.F.Shelf.stock c.args.shelf.now) (g.F.Shelf.stock c.fetch_three.new.shelf)))
    c.from_residual.ensures.1 (AtFetch c.in_err-files.ensures.refused c.in_err-files.ensures.stored)

pub returns-in_err-files-clause-others : goal.returns-in_err-files-clause-others
returns-in_err-files-clause-others g c = λ n other. c.in_err-files.ensures.stored.files n

pub profiled-requires-clause-short : goal.profiled-requires-clause-short
profiled-requires-clause-short g c = λ sync lives. c.in_ok-files.ensures.first.fits

pub returns-in_err-texts-clause-refused : goal.returns-in_err-texts-clause-refused
returns-in_err-texts-clause-refused g c =
    let what = asked_of c.args.asked.now in
    let shelf = shelves g.F.Shelf.tells (g.F.Shelf.stock c.args.shelf.now) (g.F.Shelf.stock c.fetch_three.new.shelf) in
    let files = c.in_ok-files.files in
    let e = c.in_ok-files.ensures in
    passed_on c.from_residual-in_err-texts.result c.in_err-texts.field-0.0 (WorkRefused what shelf) c.from_residual-in_err-texts.ensures.1
    (files_refuse what shelf _ e.asked ((files.first.items, e.first), ((files.second.items, e.second), ((files.third.items, e.third), tt {0}))) e.stored
    (λ some. record {
      bytes = files.first.items;
      more = files.second.items;
      last = files.third.items;
      fetched = e.first;
      also = e.second;
      too = e.third;
      holds = c.in_err-texts.ensures.refused some;
    }))

pub returns-in_err-texts-clause-others : goal.returns-in_err-texts-clause-others
returns-in_err-texts-clause-others g c = λ n other. c.in_ok-files.ensures.stored.files n

pub store_texts-requires : goal.store_texts-requires
store_texts-requires g c = λ e. other_weighted_name c.args.asked.now.image.now (e ∙ c.in_ok-texts.ensures.name)

pub returns-in_err-store_texts-clause-refused : goal.returns-in_err-store_texts-clause-refused
returns-in_err-store_texts-clause-refused g c =
    let what = asked_of c.args.asked.now in
    let tells = g.F.Shelf.tells in
    let first = g.F.Shelf.stock c.args.shelf.now in
    let between = g.F.Shelf.stock c.fetch_three.new.shelf in
    let last = g.F.Shelf.stock c.store_texts.new.shelf in
    let image = c.args.asked.now.image.now in
    let files = c.in_ok-files.files in
    let e = c.in_ok-files.ensures in
    passed_on c.from_residual-in_err-store_texts.result c.in_err-store_texts.field-0.0 (WorkRefused what (shelves tells first last)) c.from_residual-in_err-store_texts.ensures.1
    (stores_refused tells first between last what (answer_of c.in_ok-texts.texts) (stored_of image c.in_ok-texts.texts) _ e.asked e.stored c.store_texts.ensures.asked
    (record {
      bytes = files.first.items;
      more = files.second.items;
      last = files.third.items;
      fetched = record { told = e.first.told; fits = e.first.fits };
      also = record { told = e.second.told; fits = e.second.fits };
      too = record { told = e.third.told; fits = e.third.fits };
      holds = c.in_ok-texts.ensures.profiled;
    }) c.in_err-store_texts.ensures.refused)

pub returns-in_err-store_texts-clause-others : goal.returns-in_err-store_texts-clause-others
returns-in_err-store_texts-clause-others g c =
    subst (λ (name : List _). OnlyUnder (c.args.asked.now.image.now ∷ name ∷ []) (shelves g.F.Shelf.tells (g.F.Shelf.stock c.args.shelf.now) (g.F.Shelf.stock c.store_texts.new.shelf))) c.in_ok-texts.ensures.name
    (still_under g.F.Shelf.tells (g.F.Shelf.stock c.args.shelf.now) (g.F.Shelf.stock c.fetch_three.new.shelf) (g.F.Shelf.stock c.store_texts.new.shelf) c.in_ok-files.ensures.stored (c.args.asked.now.image.now ∷ string_bytes c.in_ok-texts.texts.name ∷ []) c.store_texts.ensures.others)

pub returns-clause-others : goal.returns-clause-others
returns-clause-others g c =
    subst (λ (name : List _). OnlyUnder (c.args.asked.now.image.now ∷ name ∷ []) (shelves g.F.Shelf.tells (g.F.Shelf.stock c.args.shelf.now) (g.F.Shelf.stock c.store_texts.new.shelf))) c.in_ok-texts.ensures.name
    (still_under g.F.Shelf.tells (g.F.Shelf.stock c.args.shelf.now) (g.F.Shelf.stock c.fetch_three.new.shelf) (g.F.Shelf.stock c.store_texts.new.shelf) c.in_ok-files.ensures.stored (c.args.asked.now.image.now ∷ string_bytes c.in_ok-texts.texts.name ∷ []) c.store_texts.ensures.others)

pub returns-clause-done : goal.returns-clause-done
returns-clause-done g c =
    let tells = g.F.Shelf.tells in
    let first = g.F.Shelf.stock c.args.shelf.now in
    let between = g.F.Shelf.stock c.fetch_three.new.shelf in
    let last = g.F.Shelf.stock c.store_texts.new.shelf in
    let asked = c.args.asked.now in
    let files = c.in_ok-files.files in
    let e = c.in_ok-files.ensures in
    record {
      fetched = still_none_failed tells first between last (source_file asked.source.now ∷ image_file asked.first.now ∷ ports_file asked.ports.now ∷ []) e.asked c.store_texts.ensures.asked;
      texts = stored_of asked.image.now c.in_ok-texts.texts;
      comes = record {
        bytes = files.first.items;
        more = files.second.items;
        last = files.third.items;
        fetched = record { told = e.first.told; fits = e.first.fits };
        also = record { told = e.second.told; fits = e.second.fits };
        too = record { told = e.third.told; fits = e.third.fits };
        holds = c.in_ok-texts.ensures.profiled;
      };
      stored = still_stored tells first between last e.stored _ c.in_ok-store_texts.ensures.stored;
    }
