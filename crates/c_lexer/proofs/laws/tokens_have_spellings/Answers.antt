use Rattle.c_lexer.proofs.SpelledTokens.{lexed_spelled}
use Rattle.c_lexer.proofs.laws.tokens_have_spellings.Goals as goal

pub returns : goal.returns
returns c = lexed_spelled
