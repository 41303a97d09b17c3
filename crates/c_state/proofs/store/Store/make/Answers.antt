use Rattle.std.proofs.Common.{◌≡◌, suc, sym, subst, rules}
use Rattle.c_state.specs.Objects.{AreNumbered}
use Rattle.c_state.proofs.ObjectLemmas.{numbered_added}
use Rattle.c_state.proofs.StoreLemmas.{made_store}
use Rattle.c_state.proofs.store.Store.make.Goals as goal

pub invariant_of-self-2 : goal.invariant_of-self-2
invariant_of-self-2 c =
    let s = c.args.self.now in
    let next : suc s.made ≡ c.in_ok-made.made = search rules in
    record {
      numbered = subst (λ made. AreNumbered 0 made c.push.new.self.items) next (subst (AreNumbered 0 (suc s.made)) (sym c.in_ok-push.ensures.items) (numbered_added s.objects.items 0 _ s.numbered));
    }

pub returns-clause-made : goal.returns-clause-made
returns-clause-made c =
    let s = c.args.self.now in
    let next : c.in_ok-made.made ≡ suc s.made = search rules in
    made_store s.objects.items c.push.new.self.items _ _ s.numbered c.in_ok-push.ensures.items next
