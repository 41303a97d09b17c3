use Rattle.std.proofs.Common.{List, ℕ, map, vec_items, subst}
use Rattle.c_limits.specs.Calls.{NeverRise, FallBefore}
use Rattle.c_limits.proofs.CallsLemmas.{none_below}
use Rattle.c_limits.proofs.calls.first_suspect.Goals as goal

pub returns-then-never_rise : goal.returns-then-never_rise
returns-then-never_rise c =
    let lists = map vec_items c.args.callees.now in
    let R : List ℕ → Type 0 = λ levels. NeverRise levels lists in
    let F : List ℕ → Type 0 = λ levels. FallBefore levels lists c.count_falling.result in
    none_below c.in_ok-levels.levels.items lists c.count_falling.result (subst R c.deref.ensures.value (c.never_rise.ensures c.if-never_rise.true))
    (subst F c.deref-then-never_rise.ensures.value c.count_falling.ensures)
