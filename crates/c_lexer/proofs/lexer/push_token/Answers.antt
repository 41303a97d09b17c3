use Rattle.std.proofs.Common.{rules, sym, subst, ap, ◌≡◌, ◌∙◌, ◌∷◌, [], ◌++◌, length}
use Rattle.c_syntax.specs.Lexes.{ReadsTo, most_tokens}
use Rattle.c_lexer.proofs.LexerLemmas.{token_at, reads_past_token, too_many}
use Rattle.c_lexer.proofs.lexer.push_token.Goals as goal

pub returns-then-len-eq-MOST_TOKENS-clause-fault : goal.returns-then-len-eq-MOST_TOKENS-clause-fault
returns-then-len-eq-MOST_TOKENS-clause-fault c =
    let full : length c.args.tokens.now.items ≡ most_tokens = search rules in
    too_many c.args.bytes.now c.args.tokens.now.items c.args.rest.now c.in-Ok.found.kind c.in-Ok.found.size c.requires.reads c.in-Ok.ensures.token full

pub returns-clause-reads : goal.returns-clause-reads
returns-clause-reads c =
    let more = reads_past_token c.args.bytes.now c.args.tokens.now.items c.args.rest.now c.in-Ok.found.kind c.in-Ok.found.size c.requires.reads c.in-Ok.ensures.token in
    let pushed = ap (λ size. c.args.tokens.now.items ++ token_at c.args.bytes.now c.args.rest.now c.in-Ok.found.kind size ∷ []) (sym c.split_at.ensures.front_len) ∙ sym c.in_ok-push.ensures.items in
    subst (λ tokens. ReadsTo c.args.bytes.now tokens c.split_at.result.1.now) pushed (subst (ReadsTo c.args.bytes.now _) (sym c.split_at.ensures.back) more)
