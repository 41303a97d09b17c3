use Rattle.std.proofs.Common.{◌+◌, ◌*◌, length, ◌-◌}
use Rattle.c_syntax.specs.Grammar.{ExpressionRow}
use Rattle.c_expressions.proofs.RowsRefuse.{MoreSoFar, LevelsSoFar}
use Rattle.c_expressions.proofs.parser.Parser.+parser.Given as goal
use Rattle.c_syntax.specs.Lookahead.{row_rank}
use Rattle.c_expressions.specs.Operators.{level_row, row_at}
use Rattle.c_expressions.proofs.Rows.{BehindSoFar}
use Rattle.c_expressions.proofs.Arguments.{ArgumentsSoFar}
use Rattle.c_expressions.proofs.Parens.{ParenState}

abbrev pub decreases-expression : goal.decreases-expression
decreases-expression l = 64 * length l.self.now.cursor + 60

abbrev pub decreases-commas : goal.decreases-commas
decreases-commas l = 64 * length l.self.now.cursor + 59

abbrev pub decreases-assignment : goal.decreases-assignment
decreases-assignment l = 64 * length l.self.now.cursor + 59

abbrev pub decreases-assignment_to : goal.decreases-assignment_to
decreases-assignment_to l = 64 * length l.self.now.cursor + 58

abbrev pub decreases-conditional : goal.decreases-conditional
decreases-conditional l = 64 * length l.self.now.cursor + 58

abbrev pub decreases-alternatives : goal.decreases-alternatives
decreases-alternatives l = 64 * length l.self.now.cursor + 57

abbrev pub invariant-commas-loop-self : goal.invariant-commas-loop-self
invariant-commas-loop-self l = MoreSoFar ExpressionRow l.fn.start l.fn.self.cursor l.fn.depth l.left l.self.cursor

abbrev pub decreases-commas-loop-self : goal.decreases-commas-loop-self
decreases-commas-loop-self l = length l.self.cursor

abbrev pub decreases-levels : goal.decreases-levels
decreases-levels l = 64 * length l.self.now.cursor + 57

abbrev pub decreases-more_of : goal.decreases-more_of
decreases-more_of l = 64 * length l.self.now.cursor + 56

abbrev pub invariant-levels-loop-loosest : goal.invariant-levels-loop-loosest
invariant-levels-loop-loosest l = LevelsSoFar l.fn.loosest l.fn.start l.fn.self.cursor l.fn.depth l.level l.left l.self.cursor

abbrev pub decreases-levels-loop-loosest : goal.decreases-levels-loop-loosest
decreases-levels-loop-loosest l = row_rank (row_at l.level) - row_rank (row_at l.fn.loosest)

abbrev pub invariant-more_of-loop-operator : goal.invariant-more_of-loop-operator
invariant-more_of-loop-operator l = MoreSoFar (level_row l.fn.level) l.fn.start l.fn.self.cursor l.fn.depth l.left l.self.cursor

abbrev pub decreases-more_of-loop-operator : goal.decreases-more_of-loop-operator
decreases-more_of-loop-operator l = length l.self.cursor

abbrev pub decreases-cast : goal.decreases-cast
decreases-cast l = 64 * length l.self.now.cursor + 30

abbrev pub decreases-first_cast : goal.decreases-first_cast
decreases-first_cast l = 64 * length l.self.now.cursor + 29

abbrev pub decreases-unary : goal.decreases-unary
decreases-unary l = 64 * length l.self.now.cursor + 28

abbrev pub decreases-first_unary : goal.decreases-first_unary
decreases-first_unary l = 64 * length l.self.now.cursor + 27

abbrev pub decreases-step : goal.decreases-step
decreases-step l = 64 * length l.self.now.cursor + 26

abbrev pub decreases-prefix : goal.decreases-prefix
decreases-prefix l = 64 * length l.self.now.cursor + 26

abbrev pub decreases-size : goal.decreases-size
decreases-size l = 64 * length l.self.now.cursor + 26

abbrev pub decreases-postfix : goal.decreases-postfix
decreases-postfix l = 64 * length l.self.now.cursor + 20

abbrev pub decreases-indexed : goal.decreases-indexed
decreases-indexed l = 64 * length l.self.now.cursor + 19

abbrev pub decreases-primary : goal.decreases-primary
decreases-primary l = 64 * length l.self.now.cursor + 20

abbrev pub decreases-named : goal.decreases-named
decreases-named l = 64 * length l.self.now.cursor + 19

abbrev pub decreases-parenthesised : goal.decreases-parenthesised
decreases-parenthesised l = 64 * length l.self.now.cursor + 19

abbrev pub decreases-arguments : goal.decreases-arguments
decreases-arguments l = 64 * length l.self.now.cursor + 61

abbrev pub invariant-postfix-loop-self : goal.invariant-postfix-loop-self
invariant-postfix-loop-self l = BehindSoFar l.fn.start l.fn.self.cursor l.fn.depth l.left l.self.cursor

abbrev pub decreases-postfix-loop-self : goal.decreases-postfix-loop-self
decreases-postfix-loop-self l = length l.self.cursor

abbrev pub invariant-arguments-loop-arguments : goal.invariant-arguments-loop-arguments
invariant-arguments-loop-arguments l = ArgumentsSoFar l.fn.self.cursor l.fn.depth l.arguments.list.items l.arguments.height l.self.cursor

abbrev pub decreases-arguments-loop-arguments : goal.decreases-arguments-loop-arguments
decreases-arguments-loop-arguments l = length l.self.cursor

abbrev pub invariant-parenthesised-loop-at : goal.invariant-parenthesised-loop-at
invariant-parenthesised-loop-at l = ParenState l.fn.self.cursor l.fn.depth l.places.items l.inner l.self.cursor

abbrev pub decreases-parenthesised-loop-at : goal.decreases-parenthesised-loop-at
decreases-parenthesised-loop-at l = length l.places.items
