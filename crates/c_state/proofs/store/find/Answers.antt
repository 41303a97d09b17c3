use Rattle.std.proofs.Common.{◌≡◌, refl, rules, tests}
use Rattle.std.proofs.lemmas.Iterator.{IsFirst-from_position, YieldsList-from_slice}
use Rattle.std.proofs.lemmas.Option.{slice_get_read}
use Rattle.c_state.proofs.ObjectLemmas.{found_from_first}
use Rattle.c_state.proofs.store.find.Goals as goal

pub returns-in-Some : goal.returns-in-Some
returns-in-Some c = record {
  object = c.in-Some.living.now;
  at = slice_get_read c.args.objects.now _ c.args.object.place c.in-Some.living.now refl (search rules) (search rules);
  is = cc;
}

pub returns-in_default : goal.returns-in_default
returns-in_default c =
    let os = c.args.objects.now in
    let k = c.args.object.number in
    let first = IsFirst-from_position _ _ _ (λ o. o.number ≡ k) (λ o. o.number ≡ k → ⊥) c.position.ensures.ran (YieldsList-from_slice os cc) (λ x q h. search (rules, tests)) (λ x q h. search (rules, tests)) in
    found_from_first os k c.position.result first
