use Rattle.std.proofs.Common.{◌≡◌, ◌∙◌, ◌++◌, [], ap, sym, arith, drop, append-nil}
use Rattle.std.proofs.lemmas.List.{drop_all}
use Rattle.c_lexer.specs.TokenText.{tokens_text}
use Rattle.c_lexer.proofs.TokenTexts.{lexes_again}
use Rattle.c_lexer.proofs.writing.token_text.Goals as goal

pub returns-clause-lexes : goal.returns-clause-lexes
returns-clause-lexes c = λ each few.
    let tokens = c.args.tokens.now in
    let text = c.loop-token.text.items in
    let none : drop c.loop-token.token-index tokens ≡ [] = drop_all c.loop-token.token-index tokens (omega (arith, c.loop-token-test.false)) in
    let is : text ≡ tokens_text tokens = sym (append-nil text) ∙ ap (λ l. text ++ tokens_text l) (sym none) ∙ c.loop-token.invariant in
    lexes_again tokens text is each few
