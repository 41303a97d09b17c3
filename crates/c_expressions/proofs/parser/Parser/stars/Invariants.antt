use Rattle.std.proofs.Common.{length}
use Rattle.c_expressions.proofs.Words.{StarsTaken}
use Rattle.c_expressions.proofs.parser.Parser.stars.Given as goal

abbrev pub invariant-loop : goal.invariant-loop
invariant-loop l = StarsTaken l.fn.self.cursor l.self.cursor

abbrev pub decreases-loop : goal.decreases-loop
decreases-loop l = length l.self.cursor
