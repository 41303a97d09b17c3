use Rattle.std.proofs.Common.{◌≤◌, length, set, ap, ◌∙◌, arith}
use Rattle.c_state.specs.declared.value.Cell.TheVariants as cells
use Rattle.c_state.specs.declared.cells.Cells.TheInside.{Inside}
use Rattle.c_state.proofs.CellLemmas.{written, not_written}
use Rattle.c_state.proofs.cells.Cells.set.Goals as goal
use Rattle.c_state.proofs.cells.Cells.set.Goals.{in-Some, in_default}

pub returns : goal.returns
returns c =
    let before = c.self.inside.items in
    let after = c.match-get_mut.self-inside.items.items in
    elim c.match-get_mut.branch [
      | in-Some w ↦
          written before.items after c.args.index c.args.value c.args.self.now c.self.view_is
          (ap (λ (i : Inside). i.items.items) w.self-inside-is ∙ ap (λ i. set before.items i (cells.Holds c.args.value)) c.from.ensures)
      | in_default w ↦
          let past : length before.items ≤ c.args.index = grind (arith, w.in_default.ensures.variant, before.ok.0, c.from.ensures) in
          not_written before.items after c.args.index c.args.value c.args.self.now c.self.view_is (ap (λ (i : Inside). i.items.items) w.self-inside-is) past
    ]
