use Rattle.c_cursor.proofs.Refusals.{passed_on}
use Rattle.c_expressions.proofs.WholeWays.{specs_taken, specs_fewer, specs_only, no_specs}
use Rattle.c_expressions.proofs.parser.Parser.whole_specs.Goals as goal

pub returns-in_err-specs-clause-refused : goal.returns-in_err-specs-clause-refused
returns-in_err-specs-clause-refused c = passed_on _ c.from_residual.result c.from_residual.ensures.1 c.in_err-specs.ensures.refused no_specs

pub returns-clause-tree : goal.returns-clause-tree
returns-clause-tree c = specs_taken c.in_ok-specs.ensures.read

pub returns-clause-only : goal.returns-clause-only
returns-clause-only c = specs_only c.in_ok-specs.ensures.read

pub returns-clause-fewer : goal.returns-clause-fewer
returns-clause-fewer c = specs_fewer c.in_ok-specs.ensures.read
