use Rattle.std.proofs.Common.{arith, ◌++◌, ◌∷◌, []}
use Rattle.cc_files.specs.World.{shelves}
use Rattle.cc_files.specs.Fetches.{NotFetched}
use Rattle.cc_files.specs.Wants.{of_names, contents_of}
use Rattle.cc_files.proofs.FetchLemmas.{none_so_far, one_more_file, next_name_refused, next_name_stopped}
use Rattle.cc_files.proofs.PassedOn.{passed_on, for_memory}
use Rattle.cc_files.proofs.StoreLemmas.{nothing_both}
use Rattle.cc_files.proofs.shelf.fetch_all.Goals as goal

pub loop-name-init : goal.loop-name-init
loop-name-init g c = rw c.new-files.ensures.items (none_so_far g.F.Shelf.tells (g.F.Shelf.stock c.args.shelf.now))

pub returns-in_err-bytes-clause-refused : goal.returns-in_err-bytes-clause-refused
returns-in_err-bytes-clause-refused g c =
    passed_on c.from_residual.result c.in_err-bytes.field-0.0 (NotFetched (shelves g.F.Shelf.tells (g.F.Shelf.stock c.args.shelf.now) (g.F.Shelf.stock c.fetch.new.shelf)) (of_names c.args.names.now c.args.limit)) c.from_residual.ensures.1
    (next_name_refused g.F.Shelf.tells (g.F.Shelf.stock c.args.shelf.now) (g.F.Shelf.stock c.loop-name.shelf) (g.F.Shelf.stock c.fetch.new.shelf) c.args.names.now c.args.limit c.loop-name.name-index (record { ref_ptr = (0, 0); now = [] })
    (omega (arith, c.loop-name-test.true, c.loop-name.auto.name-index-end)) (contents_of c.loop-name.files.items) _ c.loop-name.invariant c.in_err-bytes.ensures.refused)

pub returns-in_err-keep-clause-refused : goal.returns-in_err-keep-clause-refused
returns-in_err-keep-clause-refused g c =
    for_memory c.from_residual-in_err-keep.result (NotFetched (shelves g.F.Shelf.tells (g.F.Shelf.stock c.args.shelf.now) (g.F.Shelf.stock c.fetch.new.shelf)) (of_names c.args.names.now c.args.limit)) c.from_residual-in_err-keep.ensures.1
    (next_name_stopped g.F.Shelf.tells (g.F.Shelf.stock c.args.shelf.now) (g.F.Shelf.stock c.loop-name.shelf) (g.F.Shelf.stock c.fetch.new.shelf) c.args.names.now c.args.limit c.loop-name.name-index (record { ref_ptr = (0, 0); now = [] })
    (omega (arith, c.loop-name-test.true, c.loop-name.auto.name-index-end)) (contents_of (c.loop-name.files.items ++ c.in_ok-bytes.bytes ∷ []))
    (one_more_file g.F.Shelf.tells (g.F.Shelf.stock c.args.shelf.now) (g.F.Shelf.stock c.loop-name.shelf) (g.F.Shelf.stock c.fetch.new.shelf) c.args.names.now c.args.limit c.loop-name.name-index (record { ref_ptr = (0, 0); now = [] })
    (omega (arith, c.loop-name-test.true, c.loop-name.auto.name-index-end)) c.loop-name.files.items c.in_ok-bytes.bytes c.loop-name.invariant c.in_ok-bytes.ensures.fetched c.in_ok-bytes.ensures.asked c.in_ok-bytes.ensures.stored c.in_ok-bytes.ensures.counts))

pub loop-name-preserved : goal.loop-name-preserved
loop-name-preserved g c =
    rw c.in_ok-keep.ensures
    (one_more_file g.F.Shelf.tells (g.F.Shelf.stock c.args.shelf.now) (g.F.Shelf.stock c.loop-name.shelf) (g.F.Shelf.stock c.fetch.new.shelf) c.args.names.now c.args.limit c.loop-name.name-index (record { ref_ptr = (0, 0); now = [] })
    (omega (arith, c.loop-name-test.true, c.loop-name.auto.name-index-end)) c.loop-name.files.items c.in_ok-bytes.bytes c.loop-name.invariant c.in_ok-bytes.ensures.fetched c.in_ok-bytes.ensures.asked c.in_ok-bytes.ensures.stored c.in_ok-bytes.ensures.counts)

pub returns-in_err-bytes-clause-stored : goal.returns-in_err-bytes-clause-stored
returns-in_err-bytes-clause-stored g c = nothing_both _ _ (g.F.Shelf.stock c.loop-name.shelf) _ c.loop-name.invariant.stored c.in_err-bytes.ensures.stored

pub returns-in_err-keep-clause-stored : goal.returns-in_err-keep-clause-stored
returns-in_err-keep-clause-stored g c = nothing_both _ _ (g.F.Shelf.stock c.loop-name.shelf) _ c.loop-name.invariant.stored c.in_ok-bytes.ensures.stored
