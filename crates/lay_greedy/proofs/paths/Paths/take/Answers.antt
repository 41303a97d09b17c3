-- The path at its place, and the others.
use Rattle.std.proofs.Common.{◌≡◌, ◌<◌, ◌≤◌, [], get_or, length, ap, sym, ◌∙◌, arith}
use Rattle.std.specs.List.{remove}
use Rattle.std.proofs.lemmas.Grind.{common_steps}
use Rattle.std.proofs.lemmas.List.{get_or_read, get_or_past}
use Rattle.lay_greedy.proofs.Places.{path_at, others_at, others_past}
use Rattle.lay_greedy.proofs.paths.Paths.take.Goals as goal

pub returns-then-place-len-clause-path : goal.returns-then-place-len-clause-path
returns-then-place-len-clause-path c =
    let paths = c.args.self.now in
    let place = c.place_of-place.result in
    let lt : place < length paths = grind (arith, common_steps) in
    let is : c.remove.result ≡ get_or paths place c.remove.result = grind (arith, common_steps)
    in c.into_vec.ensures ∙ (get_or_read paths place c.remove.result lt is [] ∙ (ap (λ n. get_or paths n []) c.place_of-place.ensures ∙ path_at c.args.scalar paths))

pub returns-then-place-len-clause-others : goal.returns-then-place-len-clause-others
returns-then-place-len-clause-others c =
    let paths = c.args.self.now in
    let is : c.remove.new.self.items ≡ remove paths c.place_of-place.result = grind (arith, common_steps)
    in is ∙ (ap (remove paths) c.place_of-place.ensures ∙ others_at c.args.scalar paths)

pub returns-else-place-len-clause-path : goal.returns-else-place-len-clause-path
returns-else-place-len-clause-path c =
    let paths = c.args.self.now in
    let place = c.place_of-place.result in
    let le : length paths ≤ place = grind (arith, common_steps)
    in c.new.ensures.items ∙ (sym (get_or_past paths place [] le) ∙ (ap (λ n. get_or paths n []) c.place_of-place.ensures ∙ path_at c.args.scalar paths))

pub returns-else-place-len-clause-others : goal.returns-else-place-len-clause-others
returns-else-place-len-clause-others c =
    let le : length c.args.self.now ≤ c.place_of-place.result = grind (arith, common_steps)
    in others_past c.args.scalar c.args.self.now (omega (arith, le, c.place_of-place.ensures))
