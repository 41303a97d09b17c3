-- The path of the higher scalar is among the others.
use Rattle.std.proofs.Common.{◌≡◌, ◌++◌, [], ◌∷◌, true, ap₂, sym, ◌∙◌, arith}
use Rattle.std.proofs.lemmas.Grind.{common_steps}
use Rattle.lay_tree.specs.Greedy.{joins, ended_by, begun_by, path_of, without}
use Rattle.lay_greedy.proofs.Places.{joined_is}
use Rattle.lay_greedy.proofs.paths.Paths.join.Goals as goal

pub returns-in_ok-push : goal.returns-in_ok-push
returns-in_ok-push c =
    let paths = c.args.self.now in
    let e = c.args.edge.now in
    let yes : joins e paths ≡ true = sym c.joins.ensures ∙ c.if-joins.true in
    let others : c.take-front.new.self ≡ without e.low paths = grind (arith, common_steps) in
    let rest : c.take-back.new.self ≡ without e.high (without e.low paths) = grind (arith, common_steps) in
    let front : c.take-front.result.items ≡ path_of e.low paths = grind (arith, common_steps) in
    let back : c.take-back.result.items ≡ path_of e.high (without e.low paths) = grind (arith, common_steps) in
    let path : c.in_ok-joined.field-0 ≡ ended_by e.low c.take-front.result.items ++ begun_by e.high c.take-back.result.items = grind (arith, common_steps) in
    let pushed : c.push.new.self.items ≡ c.take-back.new.self ++ (c.in_ok-joined.field-0 ∷ []) = grind (arith, common_steps)
    in pushed ∙ (ap₂ (λ front_lists list. front_lists ++ (list ∷ [])) rest (path ∙ ap₂ (λ f b. ended_by e.low f ++ begun_by e.high b) front back) ∙ joined_is e paths yes)
