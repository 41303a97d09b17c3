use Rattle.std.proofs.Common.{List, sym, subst}
use Rattle.std.specs.Prelude.{All}
use Rattle.c_syntax.specs.declared.token.Token.{Token}
use Rattle.c_syntax.specs.TokenSpellings.{HasSpelling}
use Rattle.c_lexer.proofs.SpelledTokens.{lexed_spelled}
use Rattle.cc_compile.proofs.front.typed_program.Goals as goal

pub parse-requires-clause-spelled : goal.parse-requires-clause-spelled
parse-requires-clause-spelled c =
    subst (λ (tokens : List Token). All (λ t. HasSpelling t.kind) tokens) (sym c.deref.ensures.value)
    (lexed_spelled c.args.source.now c.in_ok-tokens.tokens.items c.in_ok-tokens.ensures.tokens)
