use Rattle.cc_files.proofs.ShelfLemmas.{fetch_refused}
use Rattle.cc_files.proofs.StoreLemmas.{fetch_stores}
use Rattle.cc_files.proofs.shelf.fetch.Goals as goal

pub returns-in-Err-clause-refused : goal.returns-in-Err-clause-refused
returns-in-Err-clause-refused g c =
    rw c.not_fetched.ensures
    (fetch_refused c.fetch.result g.F.Shelf.tells (g.F.Shelf.stock c.args.shelf.now) (g.F.Shelf.stock c.fetch.new.self) c.args.name.now c.args.limit c.in-Err.fault c.in-Err.is c.fetch.ensures.unreliable c.in-Err.ensures.refused
    c.fetch.ensures.asked)

pub returns-in-Ok-clause-stored : goal.returns-in-Ok-clause-stored
returns-in-Ok-clause-stored g c = fetch_stores _ _ _ c.fetch.ensures.unchanged c.fetch.ensures.counts c.fetch.ensures.stored c.fetch.ensures.reliable

pub returns-in-Err-clause-stored : goal.returns-in-Err-clause-stored
returns-in-Err-clause-stored g c = fetch_stores _ _ _ c.fetch.ensures.unchanged c.fetch.ensures.counts c.fetch.ensures.stored c.fetch.ensures.reliable
