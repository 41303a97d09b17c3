-- The path at its place.
use Rattle.std.proofs.Common.{◌≡◌, ◌<◌, ◌≤◌, [], get_or, length, ap, sym, ◌∙◌, arith}
use Rattle.std.proofs.lemmas.Grind.{common_steps}
use Rattle.std.proofs.lemmas.List.{get_or_read, get_or_past}
use Rattle.lay_greedy.proofs.Places.{path_at}
use Rattle.lay_greedy.proofs.paths.Paths.path_of.Goals as goal

pub returns-then-place-len : goal.returns-then-place-len
returns-then-place-len c =
    let paths = c.args.self.now in
    let place = c.place_of-place.result in
    let lt : place < length paths = grind (arith, common_steps) in
    let is : c.index.result.now ≡ get_or paths place c.index.result.now = grind (arith, common_steps)
    in c.scalars.ensures ∙ (get_or_read paths place c.index.result.now lt is [] ∙ (ap (λ n. get_or paths n []) c.place_of-place.ensures ∙ path_at c.args.scalar paths))

pub returns-else-place-len : goal.returns-else-place-len
returns-else-place-len c =
    let paths = c.args.self.now in
    let place = c.place_of-place.result in
    let le : length paths ≤ place = grind (arith, common_steps)
    in sym (get_or_past paths place [] le) ∙ (ap (λ n. get_or paths n []) c.place_of-place.ensures ∙ path_at c.args.scalar paths)
