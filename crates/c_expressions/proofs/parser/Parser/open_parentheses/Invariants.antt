use Rattle.std.proofs.Common.{length}
use Rattle.c_expressions.specs.Parses.{Opened}
use Rattle.c_expressions.proofs.parser.Parser.open_parentheses.Given as goal

abbrev pub invariant-loop-self : goal.invariant-loop-self
invariant-loop-self l = Opened l.fn.self.cursor l.places.items l.self.cursor

abbrev pub decreases-loop-self : goal.decreases-loop-self
decreases-loop-self l = length l.self.cursor
