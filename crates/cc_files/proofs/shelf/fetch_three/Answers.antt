use Rattle.std.proofs.Common.{◌∷◌, []}
use Rattle.cc_files.specs.World.{shelves}
use Rattle.cc_files.specs.Fetches.{NotFetched}
use Rattle.cc_files.specs.Wants.{of_want}
use Rattle.cc_files.proofs.ShelfLemmas.{first_refused, second_refused, both_asked, fetched_before}
use Rattle.cc_files.proofs.PassedOn.{passed_on}
use Rattle.cc_files.proofs.StoreLemmas.{nothing_both}
use Rattle.cc_files.proofs.shelf.fetch_three.Goals as goal

pub returns-in_err-bytes-clause-refused : goal.returns-in_err-bytes-clause-refused
returns-in_err-bytes-clause-refused g c =
    let shelf = shelves g.F.Shelf.tells (g.F.Shelf.stock c.args.shelf.now) (g.F.Shelf.stock c.fetch.new.shelf) in
    let one = of_want c.args.first.now in
    let others = of_want c.args.second.now ∷ of_want c.args.third.now ∷ [] in
    passed_on c.from_residual.result c.in_err-bytes.field-0.0 (NotFetched shelf (one ∷ others)) c.from_residual.ensures.1 (first_refused shelf one others _ c.in_err-bytes.ensures.refused)

pub returns-in_err-others-clause-refused : goal.returns-in_err-others-clause-refused
returns-in_err-others-clause-refused g c =
    let shelf = shelves g.F.Shelf.tells (g.F.Shelf.stock c.args.shelf.now) (g.F.Shelf.stock c.fetch_both.new.shelf) in
    let one = of_want c.args.first.now in
    let others = of_want c.args.second.now ∷ of_want c.args.third.now ∷ [] in
    passed_on c.from_residual-in_err-others.result c.in_err-others.field-0.0 (NotFetched shelf (one ∷ others)) c.from_residual-in_err-others.ensures.1
    (second_refused g.F.Shelf.tells (g.F.Shelf.stock c.args.shelf.now) (g.F.Shelf.stock c.fetch.new.shelf) (g.F.Shelf.stock c.fetch_both.new.shelf) c.in_ok-bytes.ensures.stored.files c.in_ok-bytes.ensures.counts
    one others _ (c.in_ok-bytes.bytes.items, record { told = c.in_ok-bytes.ensures.fetched.told; fits = c.in_ok-bytes.ensures.fetched.fits }) c.in_ok-bytes.ensures.asked c.in_ok-bytes.ensures.stored.reliable c.in_err-others.ensures.refused)

pub returns-clause-second : goal.returns-clause-second
returns-clause-second g c =
    fetched_before g.F.Shelf.tells (g.F.Shelf.stock c.args.shelf.now) (g.F.Shelf.stock c.fetch.new.shelf) (g.F.Shelf.stock c.fetch_both.new.shelf) c.in_ok-bytes.ensures.stored.files c.in_ok-bytes.ensures.counts
    (of_want c.args.second.now) c.in_ok-others.others.bytes.items c.in_ok-others.ensures.file

pub returns-clause-third : goal.returns-clause-third
returns-clause-third g c =
    fetched_before g.F.Shelf.tells (g.F.Shelf.stock c.args.shelf.now) (g.F.Shelf.stock c.fetch.new.shelf) (g.F.Shelf.stock c.fetch_both.new.shelf) c.in_ok-bytes.ensures.stored.files c.in_ok-bytes.ensures.counts
    (of_want c.args.third.now) c.in_ok-others.others.more.items c.in_ok-others.ensures.other

pub returns-clause-asked : goal.returns-clause-asked
returns-clause-asked g c =
    both_asked g.F.Shelf.tells (g.F.Shelf.stock c.args.shelf.now) (g.F.Shelf.stock c.fetch.new.shelf) (g.F.Shelf.stock c.fetch_both.new.shelf) c.in_ok-bytes.ensures.stored.files c.in_ok-bytes.ensures.counts
    (of_want c.args.first.now) (of_want c.args.second.now ∷ of_want c.args.third.now ∷ []) c.in_ok-bytes.ensures.asked c.in_ok-others.ensures.asked

pub returns-in_err-others-clause-stored : goal.returns-in_err-others-clause-stored
returns-in_err-others-clause-stored g c = nothing_both _ _ (g.F.Shelf.stock c.fetch.new.shelf) _ c.in_ok-bytes.ensures.stored c.in_err-others.ensures.stored

pub returns-clause-stored : goal.returns-clause-stored
returns-clause-stored g c = nothing_both _ _ (g.F.Shelf.stock c.fetch.new.shelf) _ c.in_ok-bytes.ensures.stored c.in_ok-others.ensures.stored
