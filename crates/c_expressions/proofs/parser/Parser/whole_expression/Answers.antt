use Rattle.c_cursor.proofs.Refusals.{passed_on}
use Rattle.c_expressions.proofs.WholeWays.{read_taken, read_fewer, read_only, not_read}
use Rattle.c_expressions.proofs.parser.Parser.whole_expression.Goals as goal

pub returns-in_err-parsed-clause-refused : goal.returns-in_err-parsed-clause-refused
returns-in_err-parsed-clause-refused c = passed_on _ c.from_residual.result c.from_residual.ensures.1 c.in_err-parsed.ensures.refused not_read

pub returns-clause-tree : goal.returns-clause-tree
returns-clause-tree c = rw c.whole.ensures (read_taken c.in_ok-parsed.ensures.parsed)

pub returns-clause-only : goal.returns-clause-only
returns-clause-only c = read_only c.in_ok-parsed.ensures.parsed

pub returns-clause-height : goal.returns-clause-height
returns-clause-height c = rw c.whole.ensures c.in_ok-parsed.ensures.parsed.measured.height

pub returns-clause-room : goal.returns-clause-room
returns-clause-room c = rw c.whole.ensures c.in_ok-parsed.ensures.parsed.measured.fits

pub returns-clause-fewer : goal.returns-clause-fewer
returns-clause-fewer c = read_fewer c.in_ok-parsed.ensures.parsed
