use Rattle.std.proofs.Common.{sym, ap, ◌∙◌, subst}
use Rattle.c_state.specs.Objects.{living_of, AreNumbered, IsFound}
use Rattle.c_state.proofs.ObjectLemmas.{numbered_without}
use Rattle.c_state.proofs.StoreLemmas.{same_store, gone}
use Rattle.c_state.proofs.store.Store.finish.Goals as goal

pub invariant_of-self : goal.invariant_of-self
invariant_of-self c =
    let s = c.args.self.now in
    let found = subst (λ os. IsFound os c.args.object.number c.in-Some.place) c.deref.ensures.value c.in-Some.ensures in
    record {
      numbered = subst (AreNumbered 0 s.made) (sym c.remove.ensures.items) (numbered_without s.objects.items 0 s.made c.in-Some.place found.object s.numbered found.at);
    }

pub returns-in-Some : goal.returns-in-Some
returns-in-Some c =
    let s = c.args.self.now in
    let found = subst (λ os. IsFound os c.args.object.number c.in-Some.place) c.deref.ensures.value c.in-Some.ensures in
    same_store s.made _ _ (ap living_of c.remove.ensures.items ∙ gone s.objects.items s.made c.args.object.number c.in-Some.place found.object s.numbered found.at found.is)
