-- Files that are wanted and files that were fetched, in memory.
use Rattle.std.specs.Prelude.{ℕ, List, map, Vec}
use Rattle.std.specs.Borrow.{Bor}
use Rattle.std.specs.declared.alloc.Global.{Global}
use Rattle.cc_files.specs.declared.shelf.Want.{Want}
use Rattle.cc_files.specs.Fetches.{Wanted, wanted}

abbrev pub of_want : Want → Wanted
of_want w = wanted w.name.now w.limit

-- files of these names, each with the same limit
abbrev pub of_names : List (Bor (List ℕ)) → ℕ → List Wanted
of_names names limit = map (λ name. wanted name.now limit) names

abbrev pub contents_of : List (Vec ℕ Global) → List (List ℕ)
contents_of files = map (λ file. file.items) files
