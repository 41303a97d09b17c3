use Rattle.std.proofs.Common.{replicate, map, ap, ◌∙◌}
use Rattle.c_tree.specs.Store as runs
use Rattle.c_state.specs.declared.value.Cell.TheVariants as cells
use Rattle.c_state.specs.Values.{cell_view}
use Rattle.c_state.proofs.CellLemmas.{replicated}
use Rattle.c_state.proofs.cells.Cells.unset.Goals as goal

pub returns : goal.returns
returns c =
    ap (map cell_view) (c.in_ok-vec.ensures.items_if_clones_equal (λ y same. same))
    ∙ replicated c.from.result cells.Unset
    ∙ ap (λ n. replicate n runs.Unset) c.from.ensures
