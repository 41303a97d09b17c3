use Rattle.c_declarations.proofs.FrontLemmas.{fails_as, leads_as, taken_leads}
use Rattle.c_cursor.proofs.Refusals.{passed_on}
use Rattle.c_declarations.proofs.ParameterWays.{no_name_leads, name_ways, nameless}
use Rattle.c_declarations.proofs.declarations.param_name.Goals as goal

pub returns-then-not-is_name-clause-only : goal.returns-then-not-is_name-clause-only
returns-then-not-is_name-clause-only c = no_name_leads (nameless _ c.is_name.ensures c.if-not-is_name.true)

pub returns-in_err-name-clause-refused : goal.returns-in_err-name-clause-refused
returns-in_err-name-clause-refused c =
    passed_on _ c.from_residual.result c.from_residual.ensures.1 c.in_err-name.ensures.refused
    (λ n. fails_as (name_ways _ (c.is_name.ensures.0 c.if-not-is_name.false)) n)

pub returns-clause-only : goal.returns-clause-only
returns-clause-only c = leads_as (name_ways _ (c.is_name.ensures.0 c.if-not-is_name.false)) (taken_leads c.in_ok-name.ensures.tree)
