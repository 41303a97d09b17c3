use Rattle.std.proofs.Common.{subst}
use Rattle.std.proofs.lemmas.List.Sorted.{IsNonDecreasingBy-from_sort, IsPermutation-sym, Contains-permutation}
use Rattle.c_limits.specs.Calls.{IsOrdered}
use Rattle.c_limits.proofs.recursion.callees_of.Goals as goal

pub returns : goal.returns
returns c =
    let old = c.in_ok-callees.callees.items in
    let new = c.sort_unstable.new.self.items in
    subst (λ list. IsOrdered new list) c.in_ok-callees.ensures (record {
      rising = IsNonDecreasingBy-from_sort (λ x. x) new c.sort_unstable.ensures.sorted;
      same = λ m. (Contains-permutation new old m (IsPermutation-sym old new c.sort_unstable.ensures.permutation), Contains-permutation old new m c.sort_unstable.ensures.permutation);
    })
