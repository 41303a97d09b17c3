use Rattle.cc_files.proofs.StoreLemmas.{one_stored, store_refused}
use Rattle.cc_files.proofs.shelf.store.Goals as goal

pub returns-in-Ok-clause-stored : goal.returns-in-Ok-clause-stored
returns-in-Ok-clause-stored g c = one_stored _ _ _ _ _ c.in-Ok.ensures.told c.store.ensures.others c.in-Ok.ensures.success c.in-Ok.ensures.found c.in-Ok.ensures.stored c.store.ensures.reliable

pub returns-in-Err-clause-refused : goal.returns-in-Err-clause-refused
returns-in-Err-clause-refused g c =
    rw c.not_stored.ensures
    (store_refused c.store.result g.F.Shelf.tells (g.F.Shelf.stock c.args.shelf.now) (g.F.Shelf.stock c.store.new.self) c.args.name.now c.in-Err.fault c.in-Err.is c.store.ensures.memory
    c.in-Err.ensures.refused c.store.ensures.stored c.store.ensures.reliable c.store.ensures.unreliable)
