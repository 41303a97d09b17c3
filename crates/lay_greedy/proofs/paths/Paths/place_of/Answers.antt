-- The first path with the scalar, or none.
use Rattle.std.proofs.Common.{◌≡◌, ◌<◌, ◌≤◌, [], true, get_or, length, ap, sym, ◌∙◌, arith}
use Rattle.std.proofs.lemmas.Grind.{common_steps}
use Rattle.std.proofs.lemmas.List.{get_or_read}
use Rattle.std.proofs.lemmas.List.Sums.{position_or_len_is}
use Rattle.lay_cost.specs.Placements.{has}
use Rattle.lay_greedy.proofs.paths.Paths.place_of.Goals as goal

pub returns-then-has : goal.returns-then-has
returns-then-has c =
    let paths = c.args.self.now in
    let s = c.args.scalar in
    let place = c.loop-place.place in
    let lt : place < length paths = grind (arith, common_steps) in
    let is : c.path-item.result ≡ get_or paths place c.path-item.result = grind (arith, common_steps) in
    let read = get_or_read paths place c.path-item.result lt is [] in
    let yes : has (get_or paths place []) s ≡ true = ap (λ path. has path s) (sym read ∙ sym c.scalars.ensures) ∙ (sym c.has.ensures ∙ c.if-has.true)
    in sym (position_or_len_is (λ path. has path s) paths place [] (omega (arith, lt)) c.loop-place.invariant (λ _. yes))

pub returns : goal.returns
returns c =
    let paths = c.args.self.now in
    let s = c.args.scalar in
    let le : length paths ≤ c.loop-place.place = grind (arith, common_steps) in
    let is : c.len.result ≡ length paths = grind (arith, common_steps)
    in is ∙ sym (position_or_len_is (λ path. has path s) paths (length paths) [] (omega arith) (λ k lt. c.loop-place.invariant k (omega (arith, lt, le))) (λ lt. absurd (omega (arith, lt))))
