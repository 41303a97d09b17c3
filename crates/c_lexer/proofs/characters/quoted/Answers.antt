use Rattle.std.proofs.Common.{sym, subst, ◌∙◌}
use Rattle.c_lexer.specs.Front.{HasNoQuote, IsQuoted}
use Rattle.c_lexer.proofs.CharacterLemmas.{quoted_is, no_item}
use Rattle.c_lexer.proofs.characters.quoted.Goals as goal

pub returns-in_default-until_quote : goal.returns-in_default-until_quote
returns-in_default-until_quote c =
    no_item c.args.bytes.now c.in-Some.inside.now c.head_size-head.result c.in-Some.ensures c.head_size-head.ensures (subst HasNoQuote c.split_at.ensures.back c.in_default-until_quote.ensures)

pub returns : goal.returns
returns c =
    subst (λ item. IsQuoted c.args.bytes.now item c.in-Some-until_quote.rest.now) (sym c.split_at-2.ensures.front)
    (quoted_is c.args.bytes.now c.in-Some.inside.now c.in-Some-until_quote.tail.now c.in-Some-until_quote.rest.now c.head_size-head.result c.in-Some.ensures c.head_size-head.ensures c.if-inside-head.false (sym c.split_at.ensures.back ∙ c.in-Some-until_quote.ensures.1) c.in-Some-until_quote.ensures.0)
