use Rattle.std.proofs.Common.{◌∙◌, ◌∷◌, [], subst}
use Rattle.std.specs.Prelude.{string_bytes}
use Rattle.std.proofs.lemmas.Result.{IfOk-weaker, IfErr-weaker}
use Rattle.cc_files.specs.World.{shelves}
use Rattle.cc_files.specs.cc_text.Refusals.{why_of}
use Rattle.cc_files.specs.Stores.{Stored, StoreStopped, StoresStopped}
use Rattle.cc_driver.specs.BuildTexts.{stored_of}
use Rattle.cc_driver.proofs.StoreLemmas.{stopped_at_first, second_stopped, both_stored}
use Rattle.cc_files.proofs.PassedOn.{passed_on}
use Rattle.cc_driver.proofs.build.store_texts.Goals as goal

pub returns-in_err-store-clause-refused : goal.returns-in_err-store-clause-refused
returns-in_err-store-clause-refused g c =
    let tells = g.F.Shelf.tells in
    let first = g.F.Shelf.stock c.args.shelf.now in
    let middle = g.F.Shelf.stock c.store.new.shelf in
    let image = c.args.image.now in
    let texts = c.args.texts.now in
    let one : Stored = record { name = image; text = texts.image.items } in
    let two : Stored = record { name = string_bytes texts.name; text = texts.certificate.items } in
    passed_on c.from_residual.result c.in_err-store.field-0.0 (StoresStopped (stored_of image texts) (shelves tells first middle)) c.from_residual.ensures.1
    (stopped_at_first tells first middle one (two ∷ []) c.store.ensures.others _ c.in_err-store.ensures.refused)

pub returns-clause-refused : goal.returns-clause-refused
returns-clause-refused g c =
    let tells = g.F.Shelf.tells in
    let first = g.F.Shelf.stock c.args.shelf.now in
    let middle = g.F.Shelf.stock c.store.new.shelf in
    let last = g.F.Shelf.stock c.store-2.new.shelf in
    let image = c.args.image.now in
    let texts = c.args.texts.now in
    let one : Stored = record { name = image; text = texts.image.items } in
    let two : Stored = record { name = string_bytes texts.name; text = texts.certificate.items } in
    let stored = rw c.deref.ensures.value at c.in_ok-store.ensures.stored in
    IfErr-weaker c.store-2.result _ _ (λ r stopped.
    second_stopped tells first middle last one two c.requires stored (λ n other. c.store-2.ensures.others n (λ e. other (e ∙ c.deref-2.ensures))) (why_of r)
    (subst (λ name. StoreStopped name (shelves tells middle last) (why_of r)) c.deref-2.ensures stopped)) c.store-2.ensures.refused

pub returns-clause-stored : goal.returns-clause-stored
returns-clause-stored g c =
    let tells = g.F.Shelf.tells in
    let first = g.F.Shelf.stock c.args.shelf.now in
    let middle = g.F.Shelf.stock c.store.new.shelf in
    let last = g.F.Shelf.stock c.store-2.new.shelf in
    let image = c.args.image.now in
    let texts = c.args.texts.now in
    let one : Stored = record { name = image; text = texts.image.items } in
    let two : Stored = record { name = string_bytes texts.name; text = texts.certificate.items } in
    let stored = rw c.deref.ensures.value at c.in_ok-store.ensures.stored in
    let also = rw (c.deref-2.ensures, c.deref-3.ensures.value) at c.store-2.ensures.stored in
    IfOk-weaker c.store-2.result _ _ (λ _ second. both_stored tells first middle last one two c.requires stored (λ n other. c.store-2.ensures.others n (λ e. other (e ∙ c.deref-2.ensures))) second) also
