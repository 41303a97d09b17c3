use Rattle.std.proofs.Common.{◌≡◌, ◌+◌, ◌++◌, ◌∷◌, [], min, sym, ap, ◌∙◌, rules}
use Rattle.c_syntax.specs.Source.{end_of}
use Rattle.c_parser.proofs.Places.{end_last}
use Rattle.c_parser.proofs.units.end.Goals as goal

pub returns-in-Some : goal.returns-in-Some
returns-in-Some c =
    let is : c.args.tokens.now ≡ c.in-Some.field-0-1.now ++ c.in-Some.token.now ∷ [] = search rules in
    let sum : c.saturating_add.result ≡ min (c.in-Some.token.now.at + c.in-Some.token.now.len) 4294967295 = search rules in
    sum ∙ sym (end_last c.in-Some.field-0-1.now c.in-Some.token.now) ∙ sym (ap end_of is)
