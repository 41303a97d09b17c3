use Rattle.std.proofs.Common.{◌≡◌, ◌<◌, [], length, set, refl, ap, subst, arith, MatchOption, deque_len}
use Rattle.c_state.specs.Inputs.{words_in, words_of, IsTaken}
use Rattle.c_state.proofs.InputLemmas.{taken, words_at, words_with}
use Rattle.c_state.proofs.inputs.Inputs.take.Goals as goal

pub returns : goal.returns
returns c =
    let queues = c.args.self.now.ports in
    let place = c.from.result in
    let old = c.in_ok-get_mut.field-0.now in
    let new = c.pop_front.new.self in
    let here = c.in_ok-get_mut.ensures in
    let within : place < length queues.items = omega (arith, here.variant.0 refl, queues.ok.0) in
    let at = words_at queues.items place old within here.value in
    let all = words_of (words_in queues.items) in
    let after = words_of (words_in (set queues.items place new)) in
    let is = ap words_of (words_with queues.items place new) in
    let some : 0 < length old.items → 0 < deque_len old = λ h. grind (arith, h, old.ok.0) in
    subst (λ p. MatchOption c.pop_front.result (all p ≡ []) (λ word. IsTaken all p word after)) c.from.ensures
    (taken (words_in queues.items) place old.items new.items c.pop_front.result after at c.pop_front.ensures.items (λ h. c.pop_front.ensures.variant.1 (some h)) is)
