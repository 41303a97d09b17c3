-- The last end is that of all accesses.
use Rattle.std.proofs.Common.{length, ap, sym, ◌∙◌, ◌≡◌, ◌-◌, sum_by, arith}
use Rattle.std.specs.Prelude.{slice_get, Some}
use Rattle.lay_model.specs.Sequences.{Block}
use Rattle.lay_model.proofs.FlatBlocks.{accesses_together, last_end}
use Rattle.lay_model.proofs.blocks.Blocks.access_count.Goals as goal

pub returns-in-Some : goal.returns-in-Some
returns-in-Some c =
    let ends = c.self.inside.ends.items in
    let is = c.in-Some.ensures.value ∙ ap (λ l. slice_get l (length l - 1)) c.deref.ensures.value in
    let size = last_end 0 ends (length c.self.inside.accesses.items) c.in-Some.last.now c.self.invariant is in
    let whole = accesses_together 0 ends c.self.inside.accesses.items c.self.invariant in
    let seen = ap (λ l. sum_by (λ (b : Block). length b.accesses) l) c.self.view_is in
    omega (arith, size, whole, seen)
