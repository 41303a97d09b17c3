use Rattle.std.proofs.Common.{◌≡◌, get_or, length, sym, subst, rules}
use Rattle.c25_walk.specs.Walks.{IsInside}
use Rattle.c25_walk.proofs.Ranges.{range_at}
use Rattle.c25_walk.proofs.walking.range_of.Goals as goal

pub returns-clause-inside : goal.returns-clause-inside
returns-clause-inside c = λ whole.
    let image = c.args.image.now in
    let f = c.index-functions-from.result in
    let is : f ≡ get_or image.functions c.args.function f = search rules in
    subst (IsInside (length image.words)) (sym is) (range_at 0 (length image.words) image.functions c.args.function f whole.ranges c.requires)
