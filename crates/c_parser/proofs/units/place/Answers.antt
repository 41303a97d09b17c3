use Rattle.std.proofs.Common.{◌≡◌, ◌++◌, ◌∷◌, ap, ◌∙◌, rules}
use Rattle.c_syntax.specs.Source.{OfToken, OfEnd}
use Rattle.c_parser.proofs.units.place.Goals as goal

pub returns-in-Some : goal.returns-in-Some
returns-in-Some c =
    let cut : c.args.tokens.now ≡ c.split_at.result.0.now ++ c.split_at.result.1.now = search rules in
    let is : c.split_at.result.1.now ≡ c.in-Some.token.now ∷ c.in-Some.field-0-1.now = search rules in
    OfToken c.split_at.result.0.now c.in-Some.field-0-1.now c.in-Some.token.now (cut ∙ ap (λ l. c.split_at.result.0.now ++ l) is)

pub returns-in-None : goal.returns-in-None
returns-in-None c = rw c.end.ensures OfEnd
