use Rattle.c_cursor.proofs.Refusals.{passed_on}
use Rattle.c_expressions.proofs.Words.{type_read}
use Rattle.c_expressions.proofs.parser.Parser.type_name.Goals as goal

pub returns-in_err-specs-clause-refused : goal.returns-in_err-specs-clause-refused
returns-in_err-specs-clause-refused c = passed_on _ c.from_residual.result c.from_residual.ensures.1 c.in_err-specs.ensures.refused (λ n. n)

pub returns-clause-read : goal.returns-clause-read
returns-clause-read c = type_read _ _ _ _ c.in_ok-specs.ensures.read c.stars-stars.ensures
