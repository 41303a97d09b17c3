use Rattle.std.proofs.Common.{length, ◌≤◌}
use Rattle.c_syntax.specs.Lexes.{ReadsTo, most_tokens}
use Rattle.c_lexer.proofs.lexer.lex.Given as goal

abbrev pub invariant-loop-rest : goal.invariant-loop-rest
invariant-loop-rest l = record { reads : ReadsTo l.bytes l.tokens.items l.rest; few : length l.tokens.items ≤ most_tokens }

abbrev pub decreases-loop-rest : goal.decreases-loop-rest
decreases-loop-rest l = length l.rest
