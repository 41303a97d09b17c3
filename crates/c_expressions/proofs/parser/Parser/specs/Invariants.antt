use Rattle.std.proofs.Common.{length}
use Rattle.c_expressions.proofs.Words.{SpecsTaken}
use Rattle.c_expressions.proofs.parser.Parser.specs.Given as goal

abbrev pub invariant-loop-word : goal.invariant-loop-word
invariant-loop-word l = SpecsTaken l.fn.self.cursor l.words.items l.self.cursor

abbrev pub decreases-loop-word : goal.decreases-loop-word
decreases-loop-word l = length l.self.cursor
