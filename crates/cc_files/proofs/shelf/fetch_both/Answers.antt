use Rattle.std.proofs.Common.{◌∷◌, []}
use Rattle.cc_files.specs.World.{shelves}
use Rattle.cc_files.specs.Fetches.{wanted, NotFetched}
use Rattle.cc_files.proofs.ShelfLemmas.{first_refused, second_refused, both_asked, fetched_before}
use Rattle.cc_files.proofs.PassedOn.{passed_on}
use Rattle.cc_files.proofs.StoreLemmas.{nothing_both}
use Rattle.cc_files.proofs.shelf.fetch_both.Goals as goal

pub returns-in_err-bytes-clause-refused : goal.returns-in_err-bytes-clause-refused
returns-in_err-bytes-clause-refused g c =
    let shelf = shelves g.F.Shelf.tells (g.F.Shelf.stock c.args.shelf.now) (g.F.Shelf.stock c.fetch.new.shelf) in
    let one = wanted c.args.name.now c.args.limit in
    let two = wanted c.args.other.now c.args.other_limit in
    passed_on c.from_residual.result c.in_err-bytes.field-0.0 (NotFetched shelf (one ∷ two ∷ [])) c.from_residual.ensures.1 (first_refused shelf one (two ∷ []) _ c.in_err-bytes.ensures.refused)

pub returns-in_err-more-clause-refused : goal.returns-in_err-more-clause-refused
returns-in_err-more-clause-refused g c =
    let shelf = shelves g.F.Shelf.tells (g.F.Shelf.stock c.args.shelf.now) (g.F.Shelf.stock c.fetch-2.new.shelf) in
    let one = wanted c.args.name.now c.args.limit in
    let two = wanted c.args.other.now c.args.other_limit in
    passed_on c.from_residual-in_err-more.result c.in_err-more.field-0.0 (NotFetched shelf (one ∷ two ∷ [])) c.from_residual-in_err-more.ensures.1
    (second_refused g.F.Shelf.tells (g.F.Shelf.stock c.args.shelf.now) (g.F.Shelf.stock c.fetch.new.shelf) (g.F.Shelf.stock c.fetch-2.new.shelf) c.in_ok-bytes.ensures.stored.files c.in_ok-bytes.ensures.counts
    one (two ∷ []) _ (c.in_ok-bytes.bytes.items, record { told = c.in_ok-bytes.ensures.fetched.told; fits = c.in_ok-bytes.ensures.fetched.fits }) c.in_ok-bytes.ensures.asked c.in_ok-bytes.ensures.stored.reliable c.in_err-more.ensures.refused)

pub returns-clause-other : goal.returns-clause-other
returns-clause-other g c =
    fetched_before g.F.Shelf.tells (g.F.Shelf.stock c.args.shelf.now) (g.F.Shelf.stock c.fetch.new.shelf) (g.F.Shelf.stock c.fetch-2.new.shelf) c.in_ok-bytes.ensures.stored.files c.in_ok-bytes.ensures.counts
    (wanted c.args.other.now c.args.other_limit) c.in_ok-more.more.items c.in_ok-more.ensures.fetched

pub returns-clause-asked : goal.returns-clause-asked
returns-clause-asked g c =
    both_asked g.F.Shelf.tells (g.F.Shelf.stock c.args.shelf.now) (g.F.Shelf.stock c.fetch.new.shelf) (g.F.Shelf.stock c.fetch-2.new.shelf) c.in_ok-bytes.ensures.stored.files c.in_ok-bytes.ensures.counts
    (wanted c.args.name.now c.args.limit) (wanted c.args.other.now c.args.other_limit ∷ []) c.in_ok-bytes.ensures.asked c.in_ok-more.ensures.asked

pub returns-in_err-more-clause-stored : goal.returns-in_err-more-clause-stored
returns-in_err-more-clause-stored g c = nothing_both _ _ (g.F.Shelf.stock c.fetch.new.shelf) _ c.in_ok-bytes.ensures.stored c.in_err-more.ensures.stored

pub returns-clause-stored : goal.returns-clause-stored
returns-clause-stored g c = nothing_both _ _ (g.F.Shelf.stock c.fetch.new.shelf) _ c.in_ok-bytes.ensures.stored c.in_ok-more.ensures.stored
