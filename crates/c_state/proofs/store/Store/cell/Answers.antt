use Rattle.std.proofs.Common.{sym, ap, ◌∙◌}
use Rattle.c_tree.specs.Store as runs
use Rattle.c_state.proofs.ObjectLemmas.{stands}
use Rattle.c_state.proofs.StoreLemmas.{there, cell_refused, cell_given}
use Rattle.c_state.proofs.store.Store.cell.Goals as goal

pub returns-then-living-is_pointer : goal.returns-then-living-is_pointer
returns-then-living-is_pointer c =
    let s = c.args.self.now in
    let o = c.index-living.result.now in
    let here = stands s.objects.items _ c.args.object.number c.in_ok-place.place o c.deref.ensures.value c.in_ok-place.ensures c.index-living.ensures in
    let is = there s.objects.items s.made c.args.object.number c.in_ok-place.place o s.numbered here.0 here.1 in
    cell_refused o c.args.index c.args.is_pointer c.if-living-is_pointer.true ∙ ap (λ x. runs.cell_of x c.args.index c.args.is_pointer) (sym is)

pub returns : goal.returns
returns c =
    let s = c.args.self.now in
    let o = c.index-living.result.now in
    let here = stands s.objects.items _ c.args.object.number c.in_ok-place.place o c.deref.ensures.value c.in_ok-place.ensures c.index-living.ensures in
    let is = there s.objects.items s.made c.args.object.number c.in_ok-place.place o s.numbered here.0 here.1 in
    cell_given o c.args.index c.args.is_pointer _ c.if-living-is_pointer.false c.get.ensures ∙ ap (λ x. runs.cell_of x c.args.index c.args.is_pointer) (sym is)
