use Rattle.std.proofs.Common.{take}
use Rattle.cc_files.specs.World.{shelves}
use Rattle.cc_files.specs.Wants.{of_names, contents_of}
use Rattle.cc_files.proofs.FetchLemmas.{SoFar}
use Rattle.cc_files.proofs.shelf.fetch_all.Given as goal

abbrev pub invariant-loop-name : goal.invariant-loop-name
invariant-loop-name g l =
    SoFar (shelves g.F.Shelf.tells (g.F.Shelf.stock l.fn.shelf) (g.F.Shelf.stock l.shelf)) (of_names (take l.name-index l.names) l.limit) (contents_of l.files.items)
