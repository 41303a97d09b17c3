use Rattle.std.proofs.Common.{◌≡◌, ◌++◌, drop}
use Rattle.c_lexer.specs.TokenText.{tokens_text}
use Rattle.c_lexer.proofs.writing.token_text.Given as goal

abbrev pub invariant-loop-token : goal.invariant-loop-token
invariant-loop-token l = l.text.items ++ tokens_text (drop l.token-index l.tokens) ≡ tokens_text l.tokens
