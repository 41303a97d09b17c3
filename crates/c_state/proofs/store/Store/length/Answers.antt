use Rattle.std.proofs.Common.{length, Some, sym, ap, ◌∙◌, option_map}
use Rattle.c_tree.specs.Store.{Obj}
use Rattle.c_state.proofs.StoreLemmas.{there}
use Rattle.c_state.proofs.ObjectLemmas.{stands}
use Rattle.c_state.proofs.store.Store.length.Goals as goal

pub returns : goal.returns
returns c =
    let s = c.args.self.now in
    let o = c.index.result.now in
    let here = stands s.objects.items _ c.args.object.number c.in_ok-place.place o c.deref.ensures.value c.in_ok-place.ensures c.index.ensures in
    let is = there s.objects.items s.made c.args.object.number c.in_ok-place.place o s.numbered here.0 here.1 in
    ap Some c.count.ensures ∙ ap (option_map (λ (x : Obj). length x.cells)) (sym is)
