use Rattle.std.proofs.Common.{sym, ap, refl}
use Rattle.c_tree.specs.Exec.{cells_set}
use Rattle.c_state.proofs.ObjectLemmas.{stands, numbered_changed}
use Rattle.c_state.proofs.StoreLemmas.{there, same_store, written}
use Rattle.c_state.proofs.store.Store.fill.Goals as goal

pub invariant_of-self : goal.invariant_of-self
invariant_of-self c =
    let s = c.args.self.now in
    let o = c.index_mut.result.now in
    let here = stands s.objects.items _ c.args.object.number c.in-Some.place o c.deref.ensures.value c.in-Some.ensures c.index_mut.ensures.value in
    record { numbered = numbered_changed s.objects.items 0 s.made c.in-Some.place o _ s.numbered here.0 refl }

pub returns-in-Some : goal.returns-in-Some
returns-in-Some c =
    let s = c.args.self.now in
    let o = c.index_mut.result.now in
    let here = stands s.objects.items _ c.args.object.number c.in-Some.place o c.deref.ensures.value c.in-Some.ensures c.index_mut.ensures.value in
    let gives = ap (λ x. cells_set x c.args.cells) (sym (there s.objects.items s.made c.args.object.number c.in-Some.place o s.numbered here.0 here.1)) in
    same_store s.made _ _ (written s.objects.items s.made c.args.object.number c.in-Some.place o _ _ s.numbered here.0 here.1 refl gives)
