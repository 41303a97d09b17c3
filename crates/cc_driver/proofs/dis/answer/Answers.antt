use Rattle.std.proofs.Common.{[], refl}
use Rattle.std.proofs.lemmas.Result.{IfOk-weaker, IfErr-weaker}
use Rattle.cc_words.specs.Asked.{ToList}
use Rattle.cc_files.specs.World.{shelves}
use Rattle.cc_driver.specs.Work.{WorkRefused, AtFetch}
use Rattle.cc_driver.proofs.StoreLemmas.{none_stored}
use Rattle.cc_driver.proofs.WorkLemmas.{files_refuse}
use Rattle.cc_files.proofs.PassedOn.{passed_on}
use Rattle.cc_driver.proofs.dis.answer.Goals as goal

pub returns-in_err-bytes-clause-refused : goal.returns-in_err-bytes-clause-refused
returns-in_err-bytes-clause-refused g c =
    passed_on c.from_residual.result c.in_err-bytes.field-0.0
    (WorkRefused (ToList c.args.asked.now.image.now) (shelves g.F.Shelf.tells (g.F.Shelf.stock c.args.shelf.now) (g.F.Shelf.stock c.fetch.new.shelf)))
    c.from_residual.ensures.1 (AtFetch c.in_err-bytes.ensures.refused c.in_err-bytes.ensures.stored)

pub returns-clause-done : goal.returns-clause-done
returns-clause-done g c =
    let same = c.deref.ensures.value in
    IfOk-weaker c.listed.result _ _ (λ a holds. record {
      fetched = c.in_ok-bytes.ensures.asked;
      texts = [];
      comes = (record { bytes = c.in_ok-bytes.bytes.items; fetched = c.in_ok-bytes.ensures.fetched; holds = holds }, refl);
      stored = none_stored _ _ _ c.in_ok-bytes.ensures.stored;
    }) (rw same at c.listed.ensures.done)

pub returns-clause-refused : goal.returns-clause-refused
returns-clause-refused g c =
    let same = c.deref.ensures.value in
    IfErr-weaker c.listed.result _ _ (λ r refused.
    files_refuse (ToList c.args.asked.now.image.now) (shelves g.F.Shelf.tells (g.F.Shelf.stock c.args.shelf.now) (g.F.Shelf.stock c.fetch.new.shelf)) _
    c.in_ok-bytes.ensures.asked ((c.in_ok-bytes.bytes.items, c.in_ok-bytes.ensures.fetched), tt {0}) c.in_ok-bytes.ensures.stored
    (λ some. record { bytes = c.in_ok-bytes.bytes.items; fetched = c.in_ok-bytes.ensures.fetched; holds = refused some }))
    (rw same at c.listed.ensures.refused)
